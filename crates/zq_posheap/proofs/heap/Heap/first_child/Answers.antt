use Rattle.std.proofs.Common.{arith, refl}
use Rattle.std.proofs.HeapSift.{only_child}
use Rattle.zq_posheap.proofs.Lists.{read_at}
use Rattle.zq_posheap.proofs.Ordered.{turned_total}
use Rattle.zq_posheap.proofs.Scored.{compares}
use Rattle.zq_posheap.proofs.Sifting.{first_child_is}
use Rattle.zq_posheap.specs.Moves.{pairs_in, queue_of}
use Rattle.zq_posheap.specs.Order.{turned_cmp}
use Rattle.zq_posheap.proofs.heap.Heap.first_child.Goals as goal
use Rattle.zq_posheap.proofs.heap.Heap.first_child.Goals.{else-left-len-via-then-left-len+else-not-is_before, else-left-len-via-else-left-len}

pub returns-then-not-is_before-clause-first : goal.returns-then-not-is_before-clause-first
returns-then-not-is_before-clause-first g c =
    let heap = c.args.self.now in
    let x = read_at heap.slots.items _ c.index.result.now (omega arith) c.index.ensures in
    let y = read_at heap.slots.items _ c.index-then-left-len.result.now (omega (arith, c.if-left-len.true, c.len.ensures, heap.slots.ok.0)) c.index-then-left-len.ensures in
    (first_child_is turned_cmp turned_total (queue_of heap) c.args.place _ _ c.is_before.result refl
    (compares (pairs_in heap) heap.slots.items _ _ _ _ c.is_before.result x y c.is_before.ensures)).0 c.if-not-is_before.true

pub returns-else-left-len-clause-first : goal.returns-else-left-len-clause-first
returns-else-left-len-clause-first g c =
    let heap = c.args.self.now in
    elim c.else-left-len.branch [
      | else-left-len-via-then-left-len+else-not-is_before w ↦
          let x = read_at heap.slots.items _ w.index.result.now (omega arith) w.index.ensures in
          let y = read_at heap.slots.items _ w.index-then-left-len.result.now (omega (arith, w.if-left-len.true, c.len.ensures, heap.slots.ok.0)) w.index-then-left-len.ensures in
          (first_child_is turned_cmp turned_total (queue_of heap) c.args.place _ _ w.is_before.result refl
          (compares (pairs_in heap) heap.slots.items _ _ _ _ w.is_before.result x y w.is_before.ensures)).1 w.if-not-is_before.false
      | else-left-len-via-else-left-len w ↦ only_child turned_cmp turned_total (queue_of heap) c.args.place _ _ refl (omega arith)
    ]
