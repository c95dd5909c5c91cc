use Rattle.std.proofs.Common.{Some}
use Rattle.std.specs.FinMap.{find}
use Rattle.zq_queue.specs.Entries.{bytes_cmp}
use Rattle.zq_shard.proofs.Gathering.{IsGathering}
use Rattle.zq_shard.proofs.Joined.{from_first}
use Rattle.zq_shard.specs.Queues.{AllListed, queue_joined, without_places_in}
use Rattle.zq_shard.proofs.joins.join_theirs.Given as goal

abbrev pub invariant-loop-key : goal.invariant-loop-key
invariant-loop-key l = record {
  gathering : IsGathering (λ q queue. queue_joined l.none.rule l.mine l.theirs (find bytes_cmp q l.my_queues.entries) (Some queue))
      (λ q. from_first l.none.rule l.mine l.theirs (find bytes_cmp q l.my_queues.entries) (find bytes_cmp q l.their_queues.entries))
      l.their_queues.entries l.key-iterator (without_places_in l.merged.entries);
  listed : AllListed l.merged.entries;
}
