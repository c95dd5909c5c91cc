use Rattle.std.proofs.Common.{None}
use Rattle.std.specs.Prelude.{◌++◌, ◌≡◌}
use Rattle.zq_shard.proofs.Gathering.{IsGathering}
use Rattle.zq_shard.specs.Queues.{unless_empty}
use Rattle.zq_shard.proofs.queues.copy_into.Given as goal

abbrev pub invariant-loop-key : goal.invariant-loop-key
invariant-loop-key l = record {
  gathering : IsGathering (λ _ queue. unless_empty queue) (λ _. None) l.source.entries l.key-iterator l.queues.entries;
  same : l.queues.entries ++ l.key-iterator ≡ l.source.entries;
}
