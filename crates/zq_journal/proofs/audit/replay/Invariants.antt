use Rattle.std.proofs.Common.{drop, take, ◌≡◌}
use Rattle.zq_model.specs.Books.{replayed}
use Rattle.zq_journal.specs.Records.{records_in, written_in}
use Rattle.zq_journal.proofs.audit.replay.Given as goal

abbrev pub invariant-loop-place : goal.invariant-loop-place
invariant-loop-place l = record {
  heap : l.shard.heap ≡ l.initial.shard.heap;
  heaps : l.shard.heaps ≡ l.initial.shard.heaps;
  rule : l.shard.rule ≡ l.initial.shard.rule;
  image : l.shard.image ≡ replayed (written_in (take l.place (records_in l.initial.shard l.initial.shard.image.vector l.tail.items))) l.initial.shard.image;
  rest : records_in l.initial.shard l.shard.image.vector (drop l.place l.tail.items) ≡ drop l.place (records_in l.initial.shard l.initial.shard.image.vector l.tail.items);
}
