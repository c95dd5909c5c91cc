-- A queue of four members, and flags.

use Rattle.std.specs.Prelude.{List, [], false, pos, true, ℕ, ◌∷◌}
use Rattle.zq_model.specs.Moves.{Queue, Queues}
use Rattle.zq_words.specs.declared.bound.Bound.{Bound}
use Rattle.zq_words.specs.declared.bound.Limit.TheVariants.{At}
use Rattle.zq_words.specs.declared.flags.Flags.{Flags}

abbrev pub a : List ℕ
a = 97 ∷ []

abbrev pub b : List ℕ
b = 98 ∷ []

abbrev pub c : List ℕ
c = 99 ∷ []

abbrev pub d : List ℕ
d = 100 ∷ []

-- b and c have one score
abbrev pub four : Queue
four = (pos 1, a) ∷ (pos 2, b) ∷ (pos 2, c) ∷ (pos 5, d) ∷ []

-- each key's queue
abbrev pub all_four : Queues
all_four = λ key. four

abbrev pub no_flags : Flags
no_flags = record { nx = false; xx = false; gt = false; lt = false; ch = false }

abbrev pub only_new : Flags
only_new = record no_flags { nx = true }

abbrev pub only_greater : Flags
only_greater = record no_flags { gt = true }

abbrev pub count_changes : Flags
count_changes = record no_flags { ch = true }

-- a score and more, and more than it
abbrev pub from_two : Bound
from_two = record { is_out = false; limit = At (pos 2) }

abbrev pub over_two : Bound
over_two = record { is_out = true; limit = At (pos 2) }

abbrev pub up_to_five : Bound
up_to_five = record { is_out = false; limit = At (pos 5) }
