use Rattle.std.proofs.Common.{false, get_or, ℕ, ◌&&◌, ◌<◌, ◌≡◌}
use Rattle.std.specs.Prelude.{nat_lt}
use Rattle.zq_follow.proofs.settling.is_lost.Given as goal

abbrev pub invariant-loop-number : goal.invariant-loop-number
invariant-loop-number l =
    (t : ℕ) → t < l.number → (nat_lt (get_or l.heard t 0) (get_or l.probed t 0) && nat_lt (get_or l.heard t 0) (get_or l.sent t 0)) ≡ false
