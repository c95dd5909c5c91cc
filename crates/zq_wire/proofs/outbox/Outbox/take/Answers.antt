use Rattle.std.proofs.Common.{ℕ, List, ◌++◌, Option, Some, None, map, subst, arith}
use Rattle.std.specs.Prelude.{option_to_list}
use Rattle.zq_wire.specs.declared.parcel.Parcel.{Parcel}
use Rattle.zq_wire.specs.Outbox.{AreParcels, parcel_of}
use Rattle.zq_wire.proofs.outbox.Outbox.take.Goals as goal

rest_keeps : (heaps : ℕ) (first : Option Parcel) (rest : List Parcel) → AreParcels heaps (map parcel_of (option_to_list first ++ rest)) → AreParcels heaps (map parcel_of rest)
rest_keeps heaps None rest are = are
rest_keeps heaps (Some p) rest are = are.2

pub invariant_of-self : goal.invariant_of-self
invariant_of-self c =
    let room = c.self.invariant.room in
    record {
      parcels = rest_keeps c.self.inside.heaps c.pop_front.result c.pop_front.new.self.items
          (subst (λ items. AreParcels c.self.inside.heaps (map parcel_of items)) c.pop_front.ensures.items c.self.invariant.parcels);
      room = omega (arith, c.pop_front.ensures.capacity);
    }
