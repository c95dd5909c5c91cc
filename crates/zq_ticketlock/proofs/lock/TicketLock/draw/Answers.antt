use Rattle.std.proofs.Common.{◌<◌, arith}
use Rattle.zq_ticketlock.proofs.Tickets.{draws}
use Rattle.zq_ticketlock.proofs.lock.TicketLock.draw.Goals as goal

pub compare_exchange-found-requires : goal.compare_exchange-found-requires
compare_exchange-found-requires g c =
    let lock = c.args.self.now in
    let seat = c.args.seat in
    let words : 1 < lock.table.shared.table_id.words = omega (arith, lock.sized.0) in (
      c.requires.own,
      words,
      draws g.T.Keeps.holds g.T.Keeps.follows lock.table.shared.table_id.slots seat.place.id c.args.number seat.place.me seat.idle,
    )
