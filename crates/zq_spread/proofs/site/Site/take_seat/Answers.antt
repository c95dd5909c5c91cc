use Rattle.std.proofs.Common.{ap, inl, subst, sym}
use Rattle.std.proofs.lemmas.List.{length-set}
use Rattle.std.specs.Prelude.{None, Some, length, refl, slice_get, ◌≡◌}
use Rattle.zq_posheap.proofs.Lists.{slice_get-set_other, there_is}
use Rattle.zq_spread.proofs.Seats.{seat_out, taken_at}
use Rattle.zq_spread.proofs.site.Site.take_seat.Goals as goal
use Rattle.zq_spread.specs.Passes.{IsSeatOf, seen_in}
use Rattle.zq_spread.specs.Turns.{turns_in}

pub unreachable-requires : goal.unreachable-requires
unreachable-requires c =
    let slot = there_is c.args.self.now.slots.items c.args.heap c.requires.heap in
    let there : slice_get c.args.pass.now.seats.items c.args.heap ≡ Some None =
    taken_at c.args.pass.now.seats.items (length c.args.self.now.slots.items) c.args.heap c.index_mut.result.now c.take.result None c.requires.seats.number c.requires.heap c.index_mut.ensures.value c.take.ensures.value c.in_default.is in
    subst (IsSeatOf slot.0) there (c.requires.seats.seat c.args.heap slot.0 (inl refl) slot.1)

pub returns-clause-pass : goal.returns-clause-pass
returns-clause-pass c = seat_out c.args.self.now c.args.pass.now _ c.args.heap c.take.new.self refl refl refl

pub returns-clause-seat : goal.returns-clause-seat
returns-clause-seat c = λ slot at.
    let there : slice_get c.args.pass.now.seats.items c.args.heap ≡ Some (Some c.in-Some.seat) =
    taken_at c.args.pass.now.seats.items (length c.args.self.now.slots.items) c.args.heap c.index_mut.result.now c.take.result (Some c.in-Some.seat) c.requires.seats.number c.requires.heap c.index_mut.ensures.value c.take.ensures.value c.in-Some.is in
    subst (IsSeatOf slot) there (c.requires.seats.seat c.args.heap slot (inl refl) at)

pub returns-clause-seen : goal.returns-clause-seen
returns-clause-seen c =
    let there : slice_get c.args.pass.now.seats.items c.args.heap ≡ Some (Some c.in-Some.seat) =
    taken_at c.args.pass.now.seats.items (length c.args.self.now.slots.items) c.args.heap c.index_mut.result.now c.take.result (Some c.in-Some.seat) c.requires.seats.number c.requires.heap c.index_mut.ensures.value c.take.ensures.value c.in-Some.is in
    sym (ap seen_in there)

pub returns-clause-turns : goal.returns-clause-turns
returns-clause-turns c =
    let there : slice_get c.args.pass.now.seats.items c.args.heap ≡ Some (Some c.in-Some.seat) =
    taken_at c.args.pass.now.seats.items (length c.args.self.now.slots.items) c.args.heap c.index_mut.result.now c.take.result (Some c.in-Some.seat) c.requires.seats.number c.requires.heap c.index_mut.ensures.value c.take.ensures.value c.in-Some.is in
    sym (ap turns_in there)

pub returns-clause-stays : goal.returns-clause-stays
returns-clause-stays c = record {
  stamp = refl;
  steps = λ k. refl;
  others = λ k other. ap seen_in (slice_get-set_other c.args.pass.now.seats.items c.args.heap k c.take.new.self other);
  turns = λ k other. ap turns_in (slice_get-set_other c.args.pass.now.seats.items c.args.heap k c.take.new.self other);
}

pub returns-clause-outside : goal.returns-clause-outside
returns-clause-outside c = record {
  number = length-set c.args.pass.now.seats.items c.args.heap c.take.new.self;
  seats = λ k other. slice_get-set_other c.args.pass.now.seats.items c.args.heap k c.take.new.self (λ same. other (inl (sym same)));
  counts = refl;
  stamp = refl;
}
