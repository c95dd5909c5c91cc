use Rattle.std.proofs.Common.{ap, inl, inr, subst, sym, ◌∙◌}
use Rattle.std.proofs.lemmas.List.{length-set}
use Rattle.std.specs.Prelude.{Some, refl, slice_get, slice_set, ◌<◌, ◌≡◌}
use Rattle.std.specs.Vec as Vec
use Rattle.zq_posheap.proofs.Lists.{slice_get-set_other, slice_get-set_same, there_is}
use Rattle.zq_spread.proofs.Seats.{seat_back}
use Rattle.zq_spread.proofs.site.Site.put_seat.Goals as goal
use Rattle.zq_spread.specs.Passes.{IsSeatOf, seen_in}
use Rattle.zq_spread.specs.Turns.{turns_in}
use Rattle.zq_spread.specs.Worn.{reached_in, served_in}
use Rattle.zq_spread.specs.declared.pass.Pass.{Pass}

pub returns-clause-pass : goal.returns-clause-pass
returns-clause-pass c = λ but.
    let old : Pass = c.args.pass.now in
    let new : Pass = record { seats = Vec.with_item old.seats c.args.heap (Some c.args.seat); counts = old.counts; stamp = old.stamp } in
    let slot = there_is c.args.self.now.slots.items c.args.heap c.requires.heap in
    seat_back c.args.self.now old new c.args.heap slot.0 c.args.seat c.requires.heap slot.1 refl refl refl (c.requires.seat slot.0 slot.1) but

pub returns-clause-seen : goal.returns-clause-seen
returns-clause-seen c =
    ap seen_in (slice_get-set_same c.args.pass.now.seats.items c.args.heap (Some c.args.seat) (subst (λ n. c.args.heap < n) (sym c.requires.number) c.requires.heap))

pub returns-clause-turns : goal.returns-clause-turns
returns-clause-turns c =
    ap turns_in (slice_get-set_same c.args.pass.now.seats.items c.args.heap (Some c.args.seat) (subst (λ n. c.args.heap < n) (sym c.requires.number) c.requires.heap))

pub returns-clause-served : goal.returns-clause-served
returns-clause-served c =
    ap served_in (slice_get-set_same c.args.pass.now.seats.items c.args.heap (Some c.args.seat) (subst (λ n. c.args.heap < n) (sym c.requires.number) c.requires.heap))

pub returns-clause-reached : goal.returns-clause-reached
returns-clause-reached c =
    ap reached_in (slice_get-set_same c.args.pass.now.seats.items c.args.heap (Some c.args.seat) (subst (λ n. c.args.heap < n) (sym c.requires.number) c.requires.heap))

pub returns-clause-stays : goal.returns-clause-stays
returns-clause-stays c = record {
  stamp = refl;
  steps = λ k. refl;
  others = λ k other. ap seen_in (slice_get-set_other c.args.pass.now.seats.items c.args.heap k (Some c.args.seat) other);
  turns = λ k other. ap turns_in (slice_get-set_other c.args.pass.now.seats.items c.args.heap k (Some c.args.seat) other);
}

pub returns-clause-seats : goal.returns-clause-seats
returns-clause-seats c =
    let seats = c.args.pass.now.seats.items in
    let heap = c.args.heap in
    let here : slice_get (slice_set seats heap (Some c.args.seat)) heap ≡ Some (Some c.args.seat) = slice_get-set_same seats heap (Some c.args.seat) (subst (λ n. heap < n) (sym c.requires.number) c.requires.heap) in
    record {
      number = length-set seats heap (Some c.args.seat) ∙ c.requires.number;
      seat = λ k slot is at. elim is [
        | inl same ↦ subst (λ j. IsSeatOf slot (slice_get (slice_set seats heap (Some c.args.seat)) j)) same
            (subst (IsSeatOf slot) (sym here) (c.requires.seat slot (ap (slice_get c.args.self.now.slots.items) same ∙ at)))
        | inr none ↦ absurd none
      ];
    }

pub returns-clause-outside : goal.returns-clause-outside
returns-clause-outside c = record {
  number = length-set c.args.pass.now.seats.items c.args.heap (Some c.args.seat);
  seats = λ k other. slice_get-set_other c.args.pass.now.seats.items c.args.heap k (Some c.args.seat) (λ same. other (inl (sym same)));
  counts = refl;
  stamp = refl;
}
