-- A site of two heaps that made an operation, and crashes.

use Rattle.std.specs.Prelude.{List, [], if◌then◌else◌, suc, zero, ℕ, ◌==◌, ◌∷◌}
use Rattle.zq_model.specs.Examples.{HEAPS}
use Rattle.zq_model.specs.Limits.{standard}
use Rattle.zq_model.specs.Operation.{Operation}
use Rattle.zq_model.specs.Rule.{Greatest}
use Rattle.zq_notes.specs.Examples.{put_x}
use Rattle.zq_notes.specs.Sites.{empty_books}
use Rattle.zq_restarts.specs.Runs.{Restart, State}

-- the site 0 has put x, which only the sites below this number have
abbrev pub had_below : ℕ → ℕ → List Operation
had_below zero s = []
had_below (suc n) s = if s == n then put_x ∷ [] else had_below n s

abbrev pub made_below : ℕ → State
made_below n = record {
  books = λ s. empty_books standard Greatest HEAPS;
  has = had_below n;
  left = put_x ∷ [];
}

-- no other has it, or the site 1 has
abbrev pub made_alone : State
made_alone = made_below 1

abbrev pub made_and_sent : State
made_and_sent = made_below 2

-- it begins again with nothing, and this is left
abbrev pub begun_empty : List Operation → Restart
begun_empty left = record {
  site = 0;
  books = empty_books standard Greatest HEAPS;
  again = [];
  left = left;
}
