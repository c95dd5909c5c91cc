use Rattle.std.proofs.Common.{◌<◌, arith}
use Rattle.zq_ticketlock.proofs.Looks.{looks}
use Rattle.zq_ticketlock.proofs.lock.TicketLock.look.Goals as goal

pub load-requires : goal.load-requires
load-requires g c =
    let lock = c.args.self.now in
    let seat = c.args.seat.now in
    let words : 0 < lock.table.shared.table_id.words = omega (arith, lock.sized.0) in (
      c.requires.own,
      words,
      looks g.T.Keeps.holds g.T.Keeps.follows lock.table.shared.table_id.slots seat.place.id seat.place.me seat.idle,
    )
