use Rattle.std.proofs.Common.{◌<◌, ◌∙◌, Some, ap, arith}
use mathlib.Core.Option as maybe
use Rattle.atomic_table.specs.Table.{step}
use Rattle.zq_ticketlock.proofs.Looks.{arrives}
use Rattle.zq_ticketlock.proofs.Told.{arrived, only_slot}
use Rattle.zq_ticketlock.proofs.lock.TicketLock.arrive.Goals as goal

pub load-serving-requires : goal.load-serving-requires
load-serving-requires g c =
    let lock = c.args.self.now in
    let ticket = c.args.ticket in
    let words : 0 < lock.table.shared.table_id.words = omega (arith, lock.sized.0) in (
      c.requires.own,
      words,
      arrives g.T.Keeps.holds g.T.Keeps.follows lock.table.shared.table_id.slots ticket.place.id ticket.number ticket.place.me ticket.waiting,
    )

pub exchange-requires : goal.exchange-requires
exchange-requires g c =
    let told = c.load-serving.ensures in
    let ticket = c.args.ticket in
    let after = c.load-serving.new.seat.me in
    let holds = g.T.Keeps.holds in
    let follows = g.T.Keeps.follows in
    let taken = arrived holds follows (step c.args.self.now.table.shared.table_id.slots 0 0 0 maybe.none) ticket.number c.load-serving.result ticket.place.me after ticket.waiting c.if-serving-number.false told.2 in
    (told.0 ∙ c.requires.own, (Some taken.0, only_slot holds follows (Some taken.0) after.1 (ap (λ m. m.1) taken.1)))
