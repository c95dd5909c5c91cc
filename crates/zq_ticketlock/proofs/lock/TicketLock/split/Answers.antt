use Rattle.std.proofs.Common.{◌<◌, arith}
use Rattle.zq_ticketlock.proofs.Seatings.{splits}
use Rattle.zq_ticketlock.proofs.lock.TicketLock.split.Goals as goal

pub split_seat-other-requires : goal.split_seat-other-requires
split_seat-other-requires g c =
    let lock = c.args.self.now in
    let seat = c.args.seat in
    let words : 0 < lock.table.shared.table_id.words = omega (arith, lock.sized.0) in
    (c.requires.own, words, splits g.T.Keeps.holds g.T.Keeps.follows seat.place.id seat.place.me seat.idle)
