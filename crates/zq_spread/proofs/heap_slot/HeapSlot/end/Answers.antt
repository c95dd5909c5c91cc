use Rattle.std.proofs.Common.{subst}
use Rattle.zq_spread.proofs.Counted.{counted_follows, counted_of, if_some}
use Rattle.zq_spread.proofs.LeftAsGiven.{turns_of_given}
use Rattle.zq_spread.proofs.heap_slot.HeapSlot.end.Goals as goal
use Rattle.zq_spread.specs.HeapSlots.{IsCountedUp, IsWorkedOn}
use Rattle.zq_ticketlock.proofs.Told.{seen_some}
use Rattle.zq_ticketlock.specs.Seats.{given, held_logged, logged}

pub unlock-requires-clause-follows : goal.unlock-requires-clause-follows
unlock-requires-clause-follows c =
    let now = c.count_up.new.kept in
    let slot = c.args.self.now in
    let old = c.args.held.value in
    let counted : IsCountedUp slot now old = subst (IsCountedUp slot now) c.value_mut.ensures.value c.count_up.ensures.counted in
    if_some (given c.args.held) (λ found is. counted_follows slot now old found counted is) c.requires.worked

pub returns-clause-seen : goal.returns-clause-seen
returns-clause-seen c =
    let now = c.count_up.new.kept in
    let slot = c.args.self.now in
    let old = c.args.held.value in
    let counted : IsCountedUp slot now old = subst (IsCountedUp slot now) c.value_mut.ensures.value c.count_up.ensures.counted in
    let found = seen_some (IsWorkedOn slot old) (given c.args.held) c.was_given.ensures c.requires.worked in
    (now, c.unlock.ensures.seen, (counted.book, counted_of slot now old found.0 counted found.2, turns_of_given (given c.args.held) now c.args.held.ticket (logged c.unlock.result) (held_logged c.args.held) c.unlock.ensures.logged))
