use Rattle.std.specs.Prelude.{length, ◌-◌}
use Rattle.std.specs.BinaryHeap.{lt_by_cmp}
use Rattle.std.specs.BinaryHeap.Sift.{IsHeapWithHole}
use Rattle.zq_posheap.specs.Moves.{HasHole, KeepsMembers, queue_with}
use Rattle.zq_posheap.specs.Order.{turned_cmp}
use Rattle.zq_posheap.proofs.heap.Heap.sink.Given as goal

abbrev pub invariant-loop-place : goal.invariant-loop-place
invariant-loop-place g l = record {
  kept : KeepsMembers l.fn.self l.self;
  out : HasHole l.self l.place l.slot;
  hole : IsHeapWithHole (lt_by_cmp turned_cmp) (queue_with l.self l.place l.slot) l.place (length l.self.slots.items);
}

abbrev pub decreases-loop-place : goal.decreases-loop-place
decreases-loop-place g l = length l.fn.self.slots.items - l.place
