use Rattle.std.proofs.Common.{map, take, ◌≡◌}
use Rattle.zq_model.specs.Rows.{row_of}
use Rattle.zq_shard.proofs.Blocks.{blocks}
use Rattle.zq_shard.specs.Listed.{lent_key, lent_row}
use Rattle.zq_shard.specs.Queues.{entries_at}
use Rattle.zq_shard.proofs.queues.Queues.rows.Given as goal

abbrev pub invariant-loop-key : goal.invariant-loop-key
invariant-loop-key l = map lent_row l.rows.items ≡ map row_of (blocks (entries_at l.self.members) (map lent_key (take l.key-index l.key-items)))
