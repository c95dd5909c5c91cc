use Rattle.std.proofs.Common.{◌<◌, ◌++◌, ◌∙◌, ap, arith}
use Rattle.zq_ticketlock.proofs.Stages.{idle_seat}
use Rattle.zq_ticketlock.proofs.Looks.{settles}
use Rattle.zq_ticketlock.proofs.Seatings.{joins}
use Rattle.zq_ticketlock.proofs.Told.{met_view}
use Rattle.zq_ticketlock.proofs.lock.TicketLock.join.Goals as goal

pub join_seat-requires : goal.join_seat-requires
join_seat-requires g c =
    let lock = c.args.self.now in
    let first = c.args.first in
    let second = c.args.second in
    let words : 0 < lock.table.shared.table_id.words = omega (arith, lock.sized.0) in (
      c.requires.own.0,
      c.requires.own.1,
      ap (λ m. m.1) (idle_seat second.place.me second.idle).4,
      words,
      joins g.T.Keeps.holds g.T.Keeps.follows first.place.id second.place.id first.place.me second.place.me first.idle second.idle,
    )

pub load-requires : goal.load-requires
load-requires g c =
    let lock = c.args.self.now in
    let first = c.args.first.place.me in
    let second = c.args.second.place.me in
    let told = c.join_seat.ensures in
    let holds = g.T.Keeps.holds in
    let follows = g.T.Keeps.follows in
    let seat = c.join_seat.new.seat in
    let one = idle_seat first c.args.first.idle in
    let other = idle_seat second c.args.second.idle in
    let words : 0 < lock.table.shared.table_id.words = omega (arith, lock.sized.0) in (
      told.0 ∙ c.requires.own.0,
      words,
      settles holds follows lock.table.shared.table_id.slots seat.id one.0 one.2 other.2 (one.3 ++ other.3) seat.me
          (met_view holds follows first second seat.me c.args.first.idle c.args.second.idle told.2) g.T.Keeps.reflexive,
    )
