use Rattle.zq_shard.proofs.Within.{IsWithinSoFar}
use Rattle.zq_shard.specs.Queues.{HasSame}
use Rattle.zq_shard.proofs.queues.are_within.Given as goal

abbrev pub invariant-loop-key : goal.invariant-loop-key
invariant-loop-key l = IsWithinSoFar l.queues.entries l.key-iterator (HasSame l.others.entries)
