use Rattle.std.proofs.Common.{ap, arith, subst, sym, ◌∙◌}
use Rattle.std.proofs.lemmas.List.{length-set}
use Rattle.std.proofs.lemmas.Option.{slice_get_read}
use Rattle.std.specs.Prelude.{IfSome, None, Some, length, refl, slice_get, slice_set, ℕ, ◌+◌, ◌<◌, ◌∷◌, ◌≡◌}
use Rattle.std.specs.Vec as Vec
use Rattle.zq_posheap.proofs.Lists.{slice_get-set_other, slice_get-set_same, there_is}
use Rattle.zq_spread.proofs.Counted.{if_some}
use Rattle.zq_spread.proofs.Seats.{count_back, seat_home, taken_at}
use Rattle.zq_spread.proofs.site.Site.finish.Goals as goal
use Rattle.zq_spread.specs.Passes.{IsCountOf, IsPassBut, seen_in, steps_in}
use Rattle.zq_spread.specs.HeapSlots.{IsOf}
use Rattle.zq_spread.specs.Turns.{HasTurn, turns_in}
use Rattle.zq_spread.specs.declared.pass.Pass.{Pass}
use Rattle.zq_spread.specs.declared.heap_slot.HeapSlot.{HeapSlot}
use Rattle.zq_tally.specs.Words as tally
use Rattle.zq_ticketlock.specs.Seats.{given, held_logged, seen}

pub unreachable-requires : goal.unreachable-requires
unreachable-requires c =
    let slot = there_is c.args.self.now.slots.items c.args.heap c.requires.heap in
    let there : slice_get c.args.pass.now.counts.items c.args.heap ≡ Some None =
    taken_at c.args.pass.now.counts.items (length c.args.self.now.slots.items) c.args.heap c.index_mut.result.now c.take.result None c.requires.pass.1.counts c.requires.heap c.index_mut.ensures.value c.take.ensures.value c.in_default.is in
    subst (IsCountOf slot.0) there (c.requires.pass.1.count c.args.heap slot.0 slot.1)

pub end-seat-requires-clause-lock : goal.end-seat-requires-clause-lock
end-seat-requires-clause-lock c =
    c.requires.lock c.index.result.now (slice_get_read c.args.self.now.slots.items (length c.args.self.now.slots.items) c.args.heap c.index.result.now refl c.requires.heap c.index.ensures)

pub end-seat-requires-clause-own : goal.end-seat-requires-clause-own
end-seat-requires-clause-own c =
    let at = slice_get_read c.args.self.now.slots.items (length c.args.self.now.slots.items) c.args.heap c.index.result.now refl c.requires.heap c.index.ensures in
    let there : slice_get c.args.pass.now.counts.items c.args.heap ≡ Some (Some c.in-Some.count) =
    taken_at c.args.pass.now.counts.items (length c.args.self.now.slots.items) c.args.heap c.index_mut.result.now c.take.result (Some c.in-Some.count) c.requires.pass.1.counts c.requires.heap c.index_mut.ensures.value c.take.ensures.value c.in-Some.is in
    subst (IsCountOf c.index.result.now) there (c.requires.pass.1.count c.args.heap c.index.result.now at)

pub end-seat-requires-clause-worked : goal.end-seat-requires-clause-worked
end-seat-requires-clause-worked c =
    c.requires.worked c.index.result.now (slice_get_read c.args.self.now.slots.items (length c.args.self.now.slots.items) c.args.heap c.index.result.now refl c.requires.heap c.index.ensures)

pub returns-clause-pass : goal.returns-clause-pass
returns-clause-pass c = λ out pass_but.
    let site = c.args.self.now in
    let old : Pass = c.args.pass.now in
    let heap : ℕ = c.args.heap in
    let slot : HeapSlot = c.index.result.now in
    let at : slice_get site.slots.items heap ≡ Some slot = slice_get_read site.slots.items (length site.slots.items) heap slot refl c.requires.heap c.index.ensures in
    let there : slice_get old.counts.items heap ≡ Some (Some c.in-Some.count) =
    taken_at old.counts.items (length site.slots.items) heap c.index_mut.result.now c.take.result (Some c.in-Some.count) pass_but.counts c.requires.heap c.index_mut.ensures.value c.take.ensures.value c.in-Some.is in
    let fits : IsCountOf slot (Some (Some c.in-Some.count)) = subst (IsCountOf slot) there (pass_but.count heap slot at) in
    let counts = Vec.with_item (Vec.with_item old.counts heap c.take.new.self) heap (Some c.end-seat.new.count) in
    let mid : Pass = record { seats = old.seats; counts = counts; stamp = c.args.stamp } in
    let new : Pass = record { seats = Vec.with_item old.seats heap (Some c.end-seat.result); counts = counts; stamp = c.args.stamp } in
    let but : IsPassBut site (heap ∷ out) mid = count_back site old mid (heap ∷ out) heap slot c.take.new.self c.end-seat.new.count c.requires.heap at refl refl c.requires.stamp (c.end-seat.ensures.table ∙ fits) pass_but in
    let left = c.end-seat.ensures.seen in
    let is_of : IfSome (seen c.end-seat.result) (IsOf slot) = subst (λ o. IfSome o (IsOf slot)) (sym left.1) left.2.1 in
    seat_home site mid new heap out slot c.end-seat.result c.requires.heap at refl refl refl (c.end-seat.ensures.lock, is_of) but

pub returns-clause-seen : goal.returns-clause-seen
returns-clause-seen c =
    let within : c.args.heap < length c.args.pass.now.seats.items = subst (λ n. c.args.heap < n) (sym c.requires.pass.1.seats) c.requires.heap in
    let left = c.end-seat.ensures.seen in
    let here = slice_get-set_same c.args.pass.now.seats.items c.args.heap (Some c.end-seat.result) within in (
      left.0,
      ap seen_in here ∙ left.1,
      left.2.0,
      subst (λ l. IfSome (given c.args.held) (λ found. HasTurn found left.0 l (held_logged c.args.held))) (sym (ap turns_in here)) left.2.2,
    )

pub returns-clause-steps : goal.returns-clause-steps
returns-clause-steps c =
    let site = c.args.self.now in
    let old : Pass = c.args.pass.now in
    let heap : ℕ = c.args.heap in
    let slot : HeapSlot = c.index.result.now in
    let at : slice_get site.slots.items heap ≡ Some slot = slice_get_read site.slots.items (length site.slots.items) heap slot refl c.requires.heap c.index.ensures in
    let there : slice_get old.counts.items heap ≡ Some (Some c.in-Some.count) =
    taken_at old.counts.items (length site.slots.items) heap c.index_mut.result.now c.take.result (Some c.in-Some.count) c.requires.pass.1.counts c.requires.heap c.index_mut.ensures.value c.take.ensures.value c.in-Some.is in
    let long : length (slice_set old.counts.items heap c.take.new.self) ≡ length site.slots.items = length-set old.counts.items heap c.take.new.self ∙ c.requires.pass.1.counts in
    let now : slice_get (slice_set (slice_set old.counts.items heap c.take.new.self) heap (Some c.end-seat.new.count)) heap ≡ Some (Some c.end-seat.new.count) =
    slice_get-set_same (slice_set old.counts.items heap c.take.new.self) heap (Some c.end-seat.new.count) (subst (λ n. heap < n) (sym long) c.requires.heap) in
    let before : steps_in (slice_get old.counts.items heap) ≡ tally.steps_of c.in-Some.count = ap steps_in there in
    let after : steps_in (slice_get (slice_set (slice_set old.counts.items heap c.take.new.self) heap (Some c.end-seat.new.count)) heap) ≡ tally.steps_of c.end-seat.new.count = ap steps_in now in
    if_some (given c.args.held) (λ found is.
    let same : tally.total_of c.args.held.value.total ≡ tally.total_of found.total = ap tally.total_of is.total in
    let began : found.book.count ≡ slot.opening + tally.total_of found.total = is.of.count in
    let counted : tally.steps_of c.end-seat.new.count + slot.opening + tally.total_of c.args.held.value.total ≡ tally.steps_of c.in-Some.count + c.args.held.value.book.count = c.end-seat.ensures.steps in
    omega (arith, before, after, same, began, counted)) (c.requires.worked slot at)

pub returns-clause-others : goal.returns-clause-others
returns-clause-others c = λ k other. (
  ap seen_in (slice_get-set_other c.args.pass.now.seats.items c.args.heap k (Some c.end-seat.result) other),
  ap steps_in (
      slice_get-set_other (slice_set c.args.pass.now.counts.items c.args.heap c.take.new.self) c.args.heap k (Some c.end-seat.new.count) other
      ∙ slice_get-set_other c.args.pass.now.counts.items c.args.heap k c.take.new.self other),
  ap turns_in (slice_get-set_other c.args.pass.now.seats.items c.args.heap k (Some c.end-seat.result) other),
)
