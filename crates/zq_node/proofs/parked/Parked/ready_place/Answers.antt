use Rattle.std.proofs.Common.{ap, arith, refl, subst, sym, false, slice_index_or, ◌∙◌}
use Rattle.zq_dots.proofs.Counters.{sites_is}
use Rattle.zq_node.proofs.Ready.{placed_at}
use Rattle.zq_node.specs.Parked.{ArePlaced, Parking, place_of}
use Rattle.zq_node.proofs.parked.Parked.ready_place.Goals as goal

pub ready_from-requires-clause-site : goal.ready_from-requires-clause-site
ready_from-requires-clause-site c = let sites = sites_is in omega arith

pub ready_from-requires-clause-may : goal.ready_from-requires-clause-may
ready_from-requires-clause-may c o here same = ap (λ t. slice_index_or c.self.inside.sites t false) (sym same) ∙ c.self.invariant.sites o here

pub returns-clause-none : goal.returns-clause-none
returns-clause-none c o here heap =
    let its = (placed_at c.args.self.now.entries (place_of o) o (subst (λ (p : Parking). ArePlaced p.entries) c.self.view_is c.self.invariant.placed) here).1 in
    let site = its.site in
    let sites = sites_is in
    c.loop-number.invariant o.operation.site (omega arith) o here heap refl
