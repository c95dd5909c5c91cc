use Rattle.std.proofs.Common.{◌≡◌}
use Rattle.zq_ticketlock.specs.Seats.{id_of, lock_of}
use Rattle.zq_ticketlock.proofs.tests.pushing.push_all.Given as goal

abbrev pub invariant-loop-i : goal.invariant-loop-i
invariant-loop-i g l = lock_of l.seat ≡ id_of l.lock
