use Rattle.std.proofs.Common.{drop, length, ◌-◌, ◌≡◌}
use Rattle.zq_journal.specs.Records.{records_in, undone_at}
use Rattle.zq_journal.proofs.audit.undo.Given as goal

abbrev pub invariant-loop-newer : goal.invariant-loop-newer
invariant-loop-newer l = record {
  heap : l.shard.heap ≡ l.initial.shard.heap;
  heaps : l.shard.heaps ≡ l.initial.shard.heaps;
  rule : l.shard.rule ≡ l.initial.shard.rule;
  image : l.shard.image ≡ undone_at (drop (length l.tail.items - l.newer) (records_in l.initial.shard l.base l.tail.items)) l.initial.shard.image;
}
