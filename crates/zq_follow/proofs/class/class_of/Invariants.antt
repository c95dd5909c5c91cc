use Rattle.std.proofs.Common.{None, false, get_or, length, not, ℕ, ◌&&◌, ◌<◌, ◌==◌, ◌||◌, ◌≡◌}
use Rattle.zq_model.specs.Sets.{SITES}
use Rattle.zq_follow.specs.Routes.{is_relayed}
use Rattle.zq_follow.proofs.class.class_of.Given as goal

abbrev pub invariant-loop-number : goal.invariant-loop-number
invariant-loop-number l = record {
  wide : length l.held ≡ SITES;
  done : (t : ℕ) → t < l.number → get_or l.held t false ≡ (not (t == l.peer) && ((t == l.own) || is_relayed l.peer l.asked l.far l.reach t (get_or l.sources t None)));
}
