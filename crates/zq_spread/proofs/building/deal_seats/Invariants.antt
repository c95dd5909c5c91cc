use Rattle.std.proofs.Common.{◌≡◌}
use Rattle.zq_spread.proofs.Places.{AllSoFar}
use Rattle.zq_spread.proofs.building.deal_seats.Given as goal
use Rattle.zq_spread.specs.SiteBuilders.{IsSeated}
use Rattle.zq_ticketlock.specs.Seats.{id_of, lock_of, seen}

abbrev pub invariant-loop-pass : goal.invariant-loop-pass
invariant-loop-pass l = record {
  lock_is : lock_of l.seat ≡ id_of l.lock;
  seen_is : seen l.seat ≡ seen l.initial.seat;
  dealt : AllSoFar (IsSeated l.lock (seen l.initial.seat) l.heap) l.pass-index l.initial.pass-items l.pass-items;
}
