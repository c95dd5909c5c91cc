-- What one part of a command makes of the books that are lent.

use Rattle.std.specs.Prelude.{if◌then◌else◌, length, ℕ, ◌≡◌}
use Rattle.zq_commands.specs.Lending.{Lending, queues_in}
use Rattle.zq_commands.specs.Running.{lent_after_all}
use Rattle.zq_commands.specs.declared.made.Made.{Made}
use Rattle.zq_model.specs.Moves.{after_all}
use Rattle.zq_semantics.specs.Plan.{Part}

-- the books and the queues are those after the part's moves; the counts are the part's
pub record Steps (site stamp : ℕ) (part : Part) (old new : Lending) (counts : Made) : Type 0 where
  pub lent : new ≡ lent_after_all site stamp part.moves old
  pub queues : queues_in new ≡ after_all part.moves (queues_in old)
  pub counted : counts.counted ≡ (if part.is_counted then 1 else 0)
  pub moves : counts.moves ≡ length part.moves
