use Rattle.std.proofs.Common.{None, false, get_or, length, ℕ, ◌&&◌, ◌<◌, ◌≡◌}
use Rattle.std.specs.Prelude.{is_none}
use Rattle.zq_model.specs.Sets.{SITES}
use Rattle.zq_follow.specs.Routes.{is_remote}
use Rattle.zq_follow.proofs.relays.far_of.Given as goal

abbrev pub invariant-loop-number : goal.invariant-loop-number
invariant-loop-number l = record {
  wide : length l.held ≡ SITES;
  done : (t : ℕ) → t < l.number → get_or l.held t false ≡ (is_none (get_or l.chosen t None) && is_remote l.own l.linked t);
}
