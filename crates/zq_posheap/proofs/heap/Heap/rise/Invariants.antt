use Rattle.std.specs.Prelude.{◌≤◌}
use Rattle.std.proofs.HeapSift.{Rising}
use Rattle.zq_posheap.specs.Moves.{HasHole, KeepsMembers, queue_with}
use Rattle.zq_posheap.specs.Order.{turned_cmp}
use Rattle.zq_posheap.proofs.Ordered.{turned_total}
use Rattle.zq_posheap.proofs.heap.Heap.rise.Given as goal

abbrev pub invariant-loop-place : goal.invariant-loop-place
invariant-loop-place g l = record {
  kept : KeepsMembers l.fn.self l.self;
  out : HasHole l.self l.place l.slot;
  lower : l.place ≤ l.fn.place;
  rising : Rising turned_cmp turned_total (queue_with l.fn.self l.fn.place l.slot) l.fn.place (queue_with l.self l.place l.slot) l.place;
}

abbrev pub decreases-loop-place : goal.decreases-loop-place
decreases-loop-place g l = l.place
