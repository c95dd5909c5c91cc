use Rattle.std.proofs.Common.{length, ◌≡◌}
use Rattle.zq_recovery.specs.Opening.{AreEmpty}
use Rattle.zq_recovery.proofs.heap.empty_stages.Given as goal

abbrev pub invariant-loop-heap : goal.invariant-loop-heap
invariant-loop-heap l = record {
  number : length l.stages.items ≡ l.heap;
  empty : AreEmpty l.identity l.stages.items;
}
