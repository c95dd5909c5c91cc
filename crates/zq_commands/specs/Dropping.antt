-- What dropping some members of a key, one after the other, comes to.

use Rattle.std.specs.Prelude.{List, None, Option, Some, length, slice_get, take, ℕ, ◌≡◌, ◌≤◌}
use Rattle.zq_commands.specs.Lending.{Lending, queues_in}
use Rattle.zq_commands.specs.Running.{lent_after_all}
use Rattle.zq_commands.specs.Stopped.{want_of}
use Rattle.zq_commands.specs.declared.cleared.Cleared.{Cleared}
use Rattle.zq_commands.specs.declared.stopped.Stopped.{Stopped}
use Rattle.zq_model.specs.Moves.{Move}
use Rattle.zq_semantics.specs.Plan.{count_in_turn, moves_in_turn, zrem_part}
use Rattle.zq_semantics.specs.Run.{ForMoves, IsWhyOf}
use Rattle.zq_words.specs.Words.{Word}

abbrev pub drops_of : Word → List Word → Lending → List Move
drops_of key members lent = moves_in_turn (zrem_part key) members (queues_in lent)

-- all of the moves where there was no cut, one for each member that was there, and else why the
-- next was not made
abbrev pub IsDropped : ℕ → Word → List Word → Lending → Lending → ℕ → Option Stopped → Type 0
IsDropped site key members old new done None = (done ≡ length (drops_of key members old))
    × (done ≡ count_in_turn (zrem_part key) members (queues_in old))
IsDropped site key members old new done (Some cut) =
    IsWhyOf ForMoves site (slice_get (drops_of key members old) done) new.books (want_of cut)

-- the first moves stand, so many as are counted
pub record DropsEach (site stamp : ℕ) (key : Word) (members : List Word) (old new : Lending)
    (dropped : Cleared) : Type 0 where
  pub within : dropped.done ≤ length (drops_of key members old)
  pub lent : new ≡ lent_after_all site stamp (take dropped.done (drops_of key members old)) old
  pub left : IsDropped site key members old new dropped.done dropped.cut
