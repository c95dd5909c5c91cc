use Rattle.std.proofs.Common.{◌≡◌}
use Rattle.zq_ticketlock.specs.Seats.{ticket_lock, ticket_logged, ticket_seen}
use Rattle.zq_ticketlock.proofs.lock.TicketLock.wait_for.Given as goal

abbrev pub invariant-loop : goal.invariant-loop
invariant-loop g l =
    (goal.iterator-loop g).can_next l.iterator' × (goal.iterator-loop g).is_finite l.iterator'
    × (ticket_lock l.ticket ≡ ticket_lock l.fn.ticket) × (ticket_seen l.ticket ≡ ticket_seen l.fn.ticket)
    × (ticket_logged l.ticket ≡ ticket_logged l.fn.ticket)
