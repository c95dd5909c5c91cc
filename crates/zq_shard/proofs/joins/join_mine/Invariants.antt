use Rattle.std.proofs.Common.{None, Some}
use Rattle.std.specs.FinMap.{find}
use Rattle.zq_queue.specs.Entries.{bytes_cmp}
use Rattle.zq_shard.proofs.Gathering.{IsGathering}
use Rattle.zq_shard.specs.Queues.{AllListed, queue_joined, without_places_in}
use Rattle.zq_shard.proofs.joins.join_mine.Given as goal

abbrev pub invariant-loop-key : goal.invariant-loop-key
invariant-loop-key l = record {
  gathering : IsGathering (λ q queue. queue_joined l.none.rule l.mine l.theirs (Some queue) (find bytes_cmp q l.their_queues.entries)) (λ _. None) l.my_queues.entries l.key-iterator (without_places_in l.merged.entries);
  listed : AllListed l.merged.entries;
}
