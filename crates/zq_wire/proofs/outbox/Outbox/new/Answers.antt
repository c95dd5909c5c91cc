use Rattle.std.proofs.Common.{map, subst, sym, arith}
use Rattle.zq_wire.specs.Outbox.{AreParcels, parcel_of}
use Rattle.zq_wire.proofs.outbox.Outbox.new.Goals as goal

pub invariant_of-result : goal.invariant_of-result
invariant_of-result c =
    record {
      parcels = subst (λ items. AreParcels c.args.heaps (map parcel_of items)) (sym c.in_ok-waiting.ensures.items) tt;
      room = omega (arith, c.in_ok-waiting.ensures.capacity);
    }
