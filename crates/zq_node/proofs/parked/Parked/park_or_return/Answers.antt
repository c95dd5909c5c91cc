use Rattle.std.proofs.Common.{length, rules, subst, sym, Some, ◌+◌, ◌≡◌}
use Rattle.zq_node.proofs.Changed.{few_with, none_more, one_more, placed_with, sites_with}
use Rattle.zq_node.specs.Parked.{HasPlaceOf, IsUpdated, Parking}
use Rattle.zq_node.proofs.parked.Parked.park_or_return.Goals as goal

pub invariant_of-self-2 : goal.invariant_of-self-2
invariant_of-self-2 c =
    let old = c.self.inside.ops.entries in
    let new = c.insert.new.self.entries in
    let place = c.place_of-place.ensures.place in
    let changed = c.in-Ok.ensures.updates.0 in
    record {
      placed = placed_with old new c.args.op (subst (λ p. IsUpdated old new p (Some c.args.op)) place changed) c.place_of-place.ensures.next c.self.invariant.placed;
      sites = sites_with old new c.place_of-place.result (Some c.args.op) c.self.inside.sites changed (search rules) c.self.invariant.sites;
      few = few_with _ _ _ _ c.in-Ok.ensures.len (search rules);
    }

pub returns-clause-more : goal.returns-clause-more
returns-clause-more c = λ _ apart.
    let old = c.self.inside.ops.entries in
    let new = c.insert.new.self.entries in
    let none : HasPlaceOf old c.args.op → ⊥ = subst (λ (p : Parking). HasPlaceOf p.entries c.args.op → ⊥) (sym c.self.view_is) apart in
    let one : length new ≡ length old + 1 = one_more old c.args.op c.place_of-place.result _ (length new) c.self.invariant.placed c.place_of-place.ensures.place c.in-Ok.ensures.old c.in-Ok.ensures.len none in
    subst (λ (p : Parking). length new ≡ length p.entries + 1) c.self.view_is one

pub returns-clause-again : goal.returns-clause-again
returns-clause-again c = λ _ there.
    let old = c.self.inside.ops.entries in
    let new = c.insert.new.self.entries in
    let here : HasPlaceOf old c.args.op = subst (λ (p : Parking). HasPlaceOf p.entries c.args.op) (sym c.self.view_is) there in
    let all : length new ≡ length old = none_more old c.args.op c.place_of-place.result _ (length new) c.place_of-place.ensures.place c.in-Ok.ensures.old c.in-Ok.ensures.len here in
    subst (λ (p : Parking). length new ≡ length p.entries) c.self.view_is all
