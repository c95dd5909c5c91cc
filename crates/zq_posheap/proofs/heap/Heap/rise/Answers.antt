use Rattle.std.proofs.Common.{arith, ◌∙◌}
use Rattle.std.specs.Prelude.{length, ◌-◌, ◌/◌, ◌<◌, ◌≢◌}
use Rattle.std.proofs.HeapSift.{rise_begins, rise_rests, rise_steps, rise_tops}
use Rattle.zq_posheap.proofs.Holes.{goes_before, long_with, moved, moved_queue, other_placed, other_there, slot_known, slot_there}
use Rattle.zq_posheap.proofs.Lists.{mapped_at, read_at, swap_either}
use Rattle.zq_posheap.proofs.Moving.{goes_on, stays}
use Rattle.zq_posheap.proofs.Ordered.{turned_total}
use Rattle.zq_posheap.proofs.Sifting.{risen}
use Rattle.zq_posheap.specs.Moves.{queue_with}
use Rattle.zq_posheap.specs.Order.{turned_cmp}
use Rattle.zq_posheap.proofs.heap.Heap.rise.Goals as goal

pub loop-place-init : goal.loop-place-init
loop-place-init g c = record {
  kept = stays c.args.self.now;
  out = c.requires.out;
  lower = omega arith;
  rising = rise_begins turned_cmp turned_total (queue_with c.args.self.now c.args.place c.args.slot) c.args.place;
}

pub is_before-requires-clause-x_known : goal.is_before-requires-clause-x_known
is_before-requires-clause-x_known g c = slot_known c.loop-place.self c.loop-place.place c.args.slot c.loop-place.invariant.out

pub is_before-requires-clause-y_known : goal.is_before-requires-clause-y_known
is_before-requires-clause-y_known g c =
    let heap = c.loop-place.self in
    let within : (c.loop-place.place - 1) / 2 < length heap.slots.items = omega (arith, c.loop-place.invariant.out.within) in
    c.loop-place.invariant.out.known _ _ (read_at heap.slots.items _ _ within c.index-above.ensures)

pub put-requires-clause-known : goal.put-requires-clause-known
put-requires-clause-known g c =
    let heap = c.loop-place.self in
    let was = c.loop-place.invariant in
    let parent = (c.loop-place.place - 1) / 2 in
    let within : parent < length heap.slots.items = omega (arith, was.out.within) in
    let apart : c.loop-place.place ≢ parent = omega (arith, c.loop-place-test.true) in
    other_placed heap c.loop-place.place c.args.slot was.out parent _ (read_at heap.slots.items parent _ within c.index-above.ensures) apart

pub loop-place-preserved : goal.loop-place-preserved
loop-place-preserved g c =
    let was = c.loop-place.invariant in
    let heap = c.loop-place.self in
    let place = c.loop-place.place in
    let slot = c.args.slot in
    let parent = (place - 1) / 2 in
    let within : parent < length heap.slots.items = omega (arith, was.out.within) in
    let apart : place ≢ parent = omega (arith, c.loop-place-test.true) in
    let above = read_at heap.slots.items parent _ within c.index-above.ensures in
    let put = c.put.ensures in
    let queue = queue_with heap place slot in
    record {
      kept = goes_on _ _ _ was.kept put.kept;
      out = moved heap place slot was.out parent _ above apart c.put.new.self put.kept put.slots put.positions;
      lower = omega (arith, was.lower);
      rising = rise_steps turned_cmp turned_total (queue_with c.args.self.now c.args.place slot) queue (queue_with c.put.new.self parent slot) c.args.place place
          c.loop-place-test.true was.lower (omega (arith, was.out.within, long_with heap place slot))
          (moved_queue heap place slot was.out parent _ above apart c.put.new.self put.kept put.slots put.positions
          ∙ swap_either queue place parent _ _ apart (mapped_at _ _ place _ (slot_there heap place slot was.out)) (mapped_at _ _ parent _ (other_there heap place slot was.out parent _ above apart)))
          (λ d. goes_before heap place slot was.out parent _ above apart c.is_before.result c.is_before.ensures d ∙ c.if-not-is_before.false) was.rising;
    }

pub returns-then-not-is_before-clause-heap : goal.returns-then-not-is_before-clause-heap
returns-then-not-is_before-clause-heap g c =
    let was = c.loop-place.invariant in
    let heap = c.loop-place.self in
    let place = c.loop-place.place in
    let slot = c.args.slot in
    let parent = (place - 1) / 2 in
    let within : parent < length heap.slots.items = omega (arith, was.out.within) in
    let apart : place ≢ parent = omega (arith, c.loop-place-test.true) in
    let above = read_at heap.slots.items parent _ within c.index-above.ensures in
    let xs = queue_with c.args.self.now c.args.place slot in
    let ys = queue_with heap place slot in
    risen turned_cmp xs ys c.args.place (length c.args.self.now.slots.items) c.requires.out.within (long_with heap place slot ∙ was.kept.len)
    (rise_rests turned_cmp turned_total xs ys c.args.place place
    (λ d. goes_before heap place slot was.out parent _ above apart c.is_before.result c.is_before.ensures d ∙ c.if-not-is_before.true) was.rising)
    c.requires.hole c.requires.over_children

pub returns-clause-heap : goal.returns-clause-heap
returns-clause-heap g c =
    let was = c.loop-place.invariant in
    let xs = queue_with c.args.self.now c.args.place c.args.slot in
    let ys = queue_with c.loop-place.self c.loop-place.place c.args.slot in
    risen turned_cmp xs ys c.args.place (length c.args.self.now.slots.items) c.requires.out.within (long_with c.loop-place.self c.loop-place.place c.args.slot ∙ was.kept.len)
    (rise_tops turned_cmp turned_total xs ys c.args.place c.loop-place.place (omega arith) was.rising)
    c.requires.hole c.requires.over_children
