use Rattle.std.proofs.Common.{arith}
use Rattle.zq_wire.proofs.outbox.Outbox.clear.Goals as goal

pub invariant_of-self : goal.invariant_of-self
invariant_of-self c =
    let room = c.self.invariant.room in
    record { parcels = rw c.clear.ensures.items tt; room = omega (arith, c.clear.ensures.capacity) }
