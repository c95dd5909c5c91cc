use Rattle.std.proofs.Common.{get_or, length, ℕ, ◌<◌, ◌≡◌}
use Rattle.zq_model.specs.Sets.{SITES}
use Rattle.zq_follow.specs.Sent.{settled_at}
use Rattle.zq_follow.proofs.settling.settled.Given as goal

abbrev pub invariant-loop-number : goal.invariant-loop-number
invariant-loop-number l = record {
  wide : length l.settled ≡ SITES;
  done : (t : ℕ) → t < l.number → get_or l.settled t 0 ≡ settled_at (get_or l.sent t 0) (get_or l.probed t 0) (get_or l.heard t 0);
}
