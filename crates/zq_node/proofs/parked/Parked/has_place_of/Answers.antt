use Rattle.std.proofs.Common.{subst, true, ◌≡◌}
use Rattle.std.specs.Prelude.{◌↔◌}
use Rattle.zq_node.proofs.Ready.{place_taken}
use Rattle.zq_node.specs.Parked.{HasPlaceOf, Parking}
use Rattle.zq_node.proofs.parked.Parked.has_place_of.Goals as goal

pub returns : goal.returns
returns c =
    let told = place_taken c.self.inside.ops.entries c.args.op.now c.place_of.result c.contains_key.result c.self.invariant.placed c.place_of.ensures.place c.contains_key.ensures in
    subst (λ (p : Parking). (c.contains_key.result ≡ true) ↔ HasPlaceOf p.entries c.args.op.now) c.self.view_is told
