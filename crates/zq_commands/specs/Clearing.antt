-- What clearing a key comes to.

use Rattle.std.specs.Prelude.{List, None, Option, Some, length, slice_get, take, ℕ, ◌+◌, ◌≡◌, ◌≤◌}
use Rattle.zq_commands.specs.Stopped.{want_of}
use Rattle.zq_commands.specs.Lending.{Lending, queues_in}
use Rattle.zq_commands.specs.Running.{lent_after_all}
use Rattle.zq_commands.specs.declared.cleared.Cleared.{Cleared}
use Rattle.zq_commands.specs.declared.stopped.Stopped.{Stopped}
use Rattle.zq_model.specs.Moves.{after_all}
use Rattle.zq_semantics.specs.Plan.{drops}
use Rattle.zq_semantics.specs.Run.{ForCopies, IsWhyOf}

-- all of them where there was no cut, and else why the next was not made
abbrev pub IsLeft : ℕ → List ℕ → Lending → Lending → ℕ → Option Stopped → Type 0
IsLeft site key old new made None = made ≡ length (queues_in old key)
IsLeft site key old new made (Some cut) =
    IsWhyOf ForCopies site (slice_get (drops key (queues_in old key)) made) new.books (want_of cut)

-- the first pairs were dropped, so many as are counted
pub record Clears (site stamp : ℕ) (key : List ℕ) (before : ℕ) (old new : Lending)
    (cleared : Cleared) : Type 0 where
  pub made : ℕ
  pub done : cleared.done ≡ before + made
  pub within : made ≤ length (queues_in old key)
  pub lent : new ≡ lent_after_all site stamp (take made (drops key (queues_in old key))) old
  pub queues : queues_in new ≡ after_all (take made (drops key (queues_in old key))) (queues_in old)
  pub left : IsLeft site key old new made cleared.cut
