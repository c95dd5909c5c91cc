-- An outbox by its fields.
use Rattle.std.specs.Prelude.{◌*◌, ◌≤◌, map}
use Rattle.std.specs.VecDeque.{deque_capacity}
use Rattle.zq_wire.specs.declared.outbox.Outbox.TheInside.{Inside}
use Rattle.zq_wire.specs.Outbox.{AreParcels, Waiting, parcel_of}

abbrev pub waiting_of : Inside → Waiting
waiting_of o = record { heaps = o.heaps; parcels = map parcel_of o.waiting.items }

-- there is room for a frame of each topic
pub record IsOutbox (o : Inside) : Type 0 where
  pub parcels : AreParcels o.heaps (map parcel_of o.waiting.items)
  pub room : 2 * o.heaps ≤ deque_capacity o.waiting
