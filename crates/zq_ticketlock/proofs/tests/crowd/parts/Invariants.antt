use Rattle.std.proofs.Common.{◌≡◌}
use Rattle.zq_ticketlock.specs.Seats.{id_of, lock_of}
use Rattle.zq_ticketlock.proofs.tests.crowd.parts.Given as goal

abbrev pub invariant-loop-thread : goal.invariant-loop-thread
invariant-loop-thread l = lock_of l.seat ≡ id_of l.lock
