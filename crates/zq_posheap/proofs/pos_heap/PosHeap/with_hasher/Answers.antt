use Rattle.std.proofs.Common.{refl}
use Rattle.std.proofs.HeapSift.{empty}
use Rattle.zq_posheap.proofs.InRange.{range-empty}
use Rattle.zq_posheap.proofs.Linked.{nothing_linked}
use Rattle.zq_posheap.proofs.Ordered.{turned_total}
use Rattle.zq_posheap.proofs.pos_heap.PosHeap.with_hasher.Goals as goal

pub invariant_of-result : goal.invariant_of-result
invariant_of-result g c = (
  record {
    linked = rw (c.new.ensures.items, c.new-2.ensures.items, c.with_hasher.ensures.empty) nothing_linked;
    ordered = rw c.new.ensures.items (empty turned_total _ refl);
  },
  rw c.with_hasher.ensures.empty range-empty,
)
