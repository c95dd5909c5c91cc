use Rattle.std.proofs.Common.{arith, length, subst, sym, None, ◌+◌, ◌∙◌, ◌≡◌}
use Rattle.std.specs.Prelude.{IsSome}
use Rattle.zq_node.proofs.Changed.{none_fewer, one_fewer, parked_before, placed_without}
use Rattle.zq_node.specs.Parked.{IsUpdated, Parking, Place, parked_at}
use Rattle.zq_node.proofs.parked.Parked.leave.Goals as goal

pub invariant_of-self : goal.invariant_of-self
invariant_of-self c =
    let place : Place = (c.args.heap, c.value-site.result, c.args.dot.n) in
    record {
      placed = placed_without c.self.inside.ops.entries c.remove.new.self.entries place c.remove.ensures.updates.0 c.self.invariant.placed;
      sites = λ o here. c.self.invariant.sites o (parked_before c.self.inside.ops.entries c.remove.new.self.entries place o c.remove.ensures.updates.0 here);
      few = let all = c.self.invariant.few in omega (arith, c.remove.ensures.len);
    }

pub returns-clause-left : goal.returns-clause-left
returns-clause-left c =
    let old = c.self.inside.ops.entries in
    let new = c.remove.new.self.entries in
    let place : Place = (c.args.heap, c.value-site.result, c.args.dot.n) in
    let named : Place = (c.args.heap, c.args.dot.site, c.args.dot.n) in
    let same : place ≡ named = λ i. (c.args.heap, c.value-site.ensures.same i, c.args.dot.n) in
    let changed : IsUpdated old new named None = subst (λ p. IsUpdated old new p None) same c.remove.ensures.updates.0 in
    let then : IsUpdated old c.settle.new.self.entries named None = subst (λ (p : Parking). IsUpdated old p.entries named None) (sym c.settle.ensures) changed in
    subst (λ (p : Parking). IsUpdated p.entries c.settle.new.self.entries named None) c.self.view_is then

pub returns-clause-fewer : goal.returns-clause-fewer
returns-clause-fewer c = λ here.
    let old = c.self.inside.ops.entries in
    let new = c.remove.new.self.entries in
    let place : Place = (c.args.heap, c.value-site.result, c.args.dot.n) in
    let named : Place = (c.args.heap, c.args.dot.site, c.args.dot.n) in
    let same : place ≡ named = λ i. (c.args.heap, c.value-site.ensures.same i, c.args.dot.n) in
    let there : IsSome (parked_at old place) = subst (λ p. IsSome (parked_at old p)) (sym same) (subst (λ (p : Parking). IsSome (parked_at p.entries named)) (sym c.self.view_is) here) in
    let removed : IsSome c.remove.result = subst IsSome (sym c.remove.ensures.value) there in
    let one : length new + 1 ≡ length old = one_fewer c.remove.result (length new) (length old) c.remove.ensures.len removed in
    let then : length c.settle.new.self.entries + 1 ≡ length old = subst (λ (p : Parking). length p.entries + 1 ≡ length old) (sym c.settle.ensures) one in
    subst (λ (p : Parking). length c.settle.new.self.entries + 1 ≡ length p.entries) c.self.view_is then

pub returns-clause-none : goal.returns-clause-none
returns-clause-none c = λ gone.
    let old = c.self.inside.ops.entries in
    let new = c.remove.new.self.entries in
    let place : Place = (c.args.heap, c.value-site.result, c.args.dot.n) in
    let named : Place = (c.args.heap, c.args.dot.site, c.args.dot.n) in
    let same : place ≡ named = λ i. (c.args.heap, c.value-site.ensures.same i, c.args.dot.n) in
    let nothing : parked_at old place ≡ None = subst (λ p. parked_at old p ≡ None) (sym same) (subst (λ (p : Parking). parked_at p.entries named ≡ None) (sym c.self.view_is) gone) in
    let all : length new ≡ length old = none_fewer c.remove.result (length new) (length old) c.remove.ensures.len (c.remove.ensures.value ∙ nothing) in
    let then : length c.settle.new.self.entries ≡ length old = subst (λ (p : Parking). length p.entries ≡ length old) (sym c.settle.ensures) all in
    subst (λ (p : Parking). length c.settle.new.self.entries ≡ length p.entries) c.self.view_is then
