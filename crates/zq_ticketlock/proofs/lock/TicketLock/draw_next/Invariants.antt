use Rattle.std.proofs.Common.{◌≡◌}
use Rattle.zq_ticketlock.specs.Seats.{lock_of, logged, reached, seen}
use Rattle.zq_ticketlock.proofs.lock.TicketLock.draw_next.Given as goal

abbrev pub invariant-loop : goal.invariant-loop
invariant-loop g l =
    (goal.iterator-loop g).can_next l.iterator' × (goal.iterator-loop g).is_finite l.iterator'
    × (lock_of l.seat ≡ lock_of l.fn.seat) × (seen l.seat ≡ seen l.fn.seat) × (l.next ≡ reached l.seat)
    × (logged l.seat ≡ logged l.fn.seat)
