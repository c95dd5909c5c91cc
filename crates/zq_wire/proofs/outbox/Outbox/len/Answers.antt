use Rattle.std.proofs.Common.{ap, map, arith}
use Rattle.std.proofs.lemmas.List.{length-map}
use Rattle.zq_wire.specs.Outbox.{parcel_of}
use Rattle.zq_wire.proofs.Parcels.{few}
use Rattle.zq_wire.proofs.outbox.Outbox.len.Goals as goal

pub returns-clause-most : goal.returns-clause-most
returns-clause-most c =
    let bound = few c.self.inside.heaps (map parcel_of c.self.inside.waiting.items) c.self.invariant.parcels in
    let heaps = ap (λ w. w.heaps) c.self.view_is in
    omega (arith, heaps, bound, length-map c.self.inside.waiting.items parcel_of)
