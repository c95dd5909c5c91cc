use Rattle.std.proofs.Common.{arith, subst, sym, ◌∙◌}
use Rattle.std.specs.Prelude.{length, ◌≢◌}
use Rattle.std.specs.BinaryHeap.{lt_by_cmp}
use Rattle.std.specs.BinaryHeap.Sift.{IsHeapWithHole}
use Rattle.zq_posheap.proofs.Holes.{first_stays, goes_after, long_with, moved, moved_queue, other_placed, slot_known}
use Rattle.zq_posheap.proofs.Lists.{read_at}
use Rattle.zq_posheap.proofs.Moving.{goes_on, stays}
use Rattle.zq_posheap.proofs.Ordered.{turned_total}
use Rattle.zq_posheap.proofs.Sifting.{rests, sinks}
use Rattle.zq_posheap.specs.Moves.{queue_with}
use Rattle.zq_posheap.specs.Order.{turned_cmp}
use Rattle.zq_posheap.proofs.heap.Heap.sink.Goals as goal

pub loop-place-init : goal.loop-place-init
loop-place-init g c = record { kept = stays c.args.self.now; out = c.requires.out; hole = c.requires.hole }

pub is_before-requires-clause-x_known : goal.is_before-requires-clause-x_known
is_before-requires-clause-x_known g c =
    let heap = c.loop-place.self in
    let child = c.first_child-child in
    c.loop-place.invariant.out.known child.result _ (read_at heap.slots.items child.result _ child.ensures.within c.index-below.ensures)

pub is_before-requires-clause-y_known : goal.is_before-requires-clause-y_known
is_before-requires-clause-y_known g c = slot_known c.loop-place.self c.loop-place.place c.args.slot c.loop-place.invariant.out

pub put-requires-clause-known : goal.put-requires-clause-known
put-requires-clause-known g c =
    let heap = c.loop-place.self in
    let child = c.first_child-child in
    let apart : c.loop-place.place ≢ child.result = omega (arith, child.ensures.from) in
    other_placed heap c.loop-place.place c.args.slot c.loop-place.invariant.out child.result _ (read_at heap.slots.items child.result _ child.ensures.within c.index-below.ensures) apart

pub loop-place-preserved : goal.loop-place-preserved
loop-place-preserved g c =
    let was = c.loop-place.invariant in
    let heap = c.loop-place.self in
    let place = c.loop-place.place in
    let child = c.first_child-child in
    let below = read_at heap.slots.items child.result _ child.ensures.within c.index-below.ensures in
    let apart : place ≢ child.result = omega (arith, child.ensures.from) in
    let put = c.put.ensures in
    record {
      kept = goes_on _ _ _ was.kept put.kept;
      out = moved heap place c.args.slot was.out child.result _ below apart c.put.new.self put.kept put.slots put.positions;
      hole = subst (λ n. IsHeapWithHole (lt_by_cmp turned_cmp) (queue_with c.put.new.self child.result c.args.slot) child.result n) (sym put.kept.len)
          (sinks turned_cmp (queue_with heap place c.args.slot) (queue_with c.put.new.self child.result c.args.slot) (length heap.slots.items) place child.result
          child.ensures.from child.ensures.to child.ensures.within (omega (arith, child.ensures.within, long_with heap place c.args.slot))
          (moved_queue heap place c.args.slot was.out child.result _ below apart c.put.new.self put.kept put.slots put.positions)
          (first_stays heap place c.args.slot was.out child.result (length heap.slots.items) child.ensures.from child.ensures.first) was.hole);
    }

pub returns-then-not-is_before-clause-over_children : goal.returns-then-not-is_before-clause-over_children
returns-then-not-is_before-clause-over_children g c =
    let was = c.loop-place.invariant in
    let heap = c.loop-place.self in
    let place = c.loop-place.place in
    let child = c.first_child-child in
    let below = read_at heap.slots.items child.result _ child.ensures.within c.index-below.ensures in
    let apart : place ≢ child.result = omega (arith, child.ensures.from) in
    rests turned_cmp turned_total (queue_with heap place c.args.slot) place child.result (length heap.slots.items)
    (λ d. goes_after heap place c.args.slot was.out child.result _ below apart c.is_before.result c.is_before.ensures d ∙ c.if-not-is_before.true)
    (first_stays heap place c.args.slot was.out child.result (length heap.slots.items) child.ensures.from child.ensures.first)
