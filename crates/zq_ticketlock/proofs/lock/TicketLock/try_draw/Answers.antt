use Rattle.std.proofs.Common.{◌<◌, ◌+◌, ◌∙◌, Some, ap, arith}
use mathlib.Core.Option as maybe
use Rattle.atomic_table.specs.Table.{step}
use Rattle.zq_ticketlock.proofs.Tickets.{tries}
use Rattle.zq_ticketlock.proofs.Told.{tried, only_slot}
use Rattle.zq_ticketlock.proofs.lock.TicketLock.try_draw.Goals as goal

pub compare_exchange-next-requires : goal.compare_exchange-next-requires
compare_exchange-next-requires g c =
    let lock = c.args.self.now in
    let seat = c.args.seat in
    let words : 1 < lock.table.shared.table_id.words = omega (arith, lock.sized.0) in (
      c.requires.own,
      words,
      tries g.T.Keeps.holds g.T.Keeps.follows lock.table.shared.table_id.slots seat.place.id c.args.number seat.place.me seat.idle c.requires.served,
    )

pub exchange-requires : goal.exchange-requires
exchange-requires g c =
    let told = c.compare_exchange-next.ensures in
    let after = c.compare_exchange-next.new.seat.me in
    let holds = g.T.Keeps.holds in
    let follows = g.T.Keeps.follows in
    let number = c.args.number in
    let taken = tried holds follows (step c.args.self.now.table.shared.table_id.slots 1 number (number + 1) maybe.none) c.compare_exchange-next.result c.args.seat.place.me after c.if-next-number.false told.2 in
    (told.0 ∙ c.requires.own, (Some taken.0, only_slot holds follows (Some taken.0) after.1 (ap (λ m. m.1) taken.1)))
