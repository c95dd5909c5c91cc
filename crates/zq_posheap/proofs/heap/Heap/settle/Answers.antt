use Rattle.std.proofs.Common.{arith, subst, sym}
use Rattle.std.specs.BinaryHeap.{IsHeap, lt_by_cmp}
use Rattle.std.specs.BinaryHeap.Sift.{IsHeapWithHole}
use Rattle.std.specs.Prelude.{length, ◌<◌}
use Rattle.zq_posheap.proofs.Holes.{filled_queue, linked_as, slot_placed, taken, taken_queue}
use Rattle.zq_posheap.proofs.Lists.{read_at}
use Rattle.zq_posheap.proofs.Moving.{goes_on, long, stays}
use Rattle.zq_posheap.proofs.Sifting.{no_hole}
use Rattle.zq_posheap.specs.Moves.{queue_of}
use Rattle.zq_posheap.specs.Order.{turned_cmp}
use Rattle.zq_posheap.proofs.heap.Heap.settle.Goals as goal

pub sink-place-requires-clause-out : goal.sink-place-requires-clause-out
sink-place-requires-clause-out g c =
    let heap = c.args.self.now in
    let within : c.args.place < length heap.slots.items = omega (arith, c.if-place-len.true, c.len.ensures, heap.slots.ok.0) in
    taken heap c.requires.linked c.args.place _ (read_at heap.slots.items c.args.place _ within c.index-slot.ensures)

pub sink-place-requires-clause-hole : goal.sink-place-requires-clause-hole
sink-place-requires-clause-hole g c =
    let heap = c.args.self.now in
    let within : c.args.place < length heap.slots.items = omega (arith, c.if-place-len.true, c.len.ensures, heap.slots.ok.0) in
    subst (λ xs. IsHeapWithHole (lt_by_cmp turned_cmp) xs c.args.place (length heap.slots.items))
    (sym (taken_queue heap c.args.place _ (read_at heap.slots.items c.args.place _ within c.index-slot.ensures))) c.requires.hole

pub put-requires-clause-known : goal.put-requires-clause-known
put-requires-clause-known g c = slot_placed c.rise-place.new.self c.rise-place.result _ c.rise-place.ensures.out

pub returns-else-place-len : goal.returns-else-place-len
returns-else-place-len g c =
    let heap = c.args.self.now in
    record {
      moves = record { linked = c.requires.linked; kept = stays heap };
      heap = no_hole turned_cmp (queue_of heap) c.args.place (length heap.slots.items) (long heap) (omega (arith, c.if-place-len.false, c.len.ensures, heap.slots.ok.0)) c.requires.hole;
    }

pub returns-then-place-len-clause-moves : goal.returns-then-place-len-clause-moves
returns-then-place-len-clause-moves g c =
    let risen = c.rise-place in
    let put = c.put.ensures in
    record {
      linked = linked_as risen.new.self c.put.new.self _ _ put.kept put.slots put.positions risen.ensures.out.linked;
      kept = goes_on _ _ _ (goes_on _ _ _ c.sink-place.ensures.kept risen.ensures.kept) put.kept;
    }

pub returns-then-place-len-clause-heap : goal.returns-then-place-len-clause-heap
returns-then-place-len-clause-heap g c =
    subst (IsHeap turned_cmp) (sym (filled_queue c.rise-place.new.self c.put.new.self c.rise-place.result _ c.put.ensures.kept c.put.ensures.slots)) c.rise-place.ensures.heap
