use Rattle.std.proofs.Common.{None, get_or, length, ℕ, ◌<◌, ◌≡◌}
use Rattle.zq_model.specs.Sets.{SITES}
use Rattle.zq_follow.specs.Routes.{nearest}
use Rattle.zq_follow.proofs.relays.choose.Given as goal

abbrev pub invariant-loop-number : goal.invariant-loop-number
invariant-loop-number l = record {
  wide : length l.chosen ≡ SITES;
  done : (t : ℕ) → t < l.number → get_or l.chosen t None ≡ nearest t l.reaches;
}
