use Rattle.std.proofs.Common.{false, get_or, length, not, ℕ, ◌&&◌, ◌<◌, ◌==◌, ◌≡◌}
use Rattle.std.specs.Prelude.{nat_lt}
use Rattle.zq_model.specs.Sets.{SITES}
use Rattle.zq_follow.specs.SiteSet.{has_site}
use Rattle.zq_follow.proofs.missing.overdue.Given as goal

abbrev pub invariant-loop-number : goal.invariant-loop-number
invariant-loop-number l = record {
  wide : length l.held ≡ SITES;
  done : (t : ℕ) → t < l.number → get_or l.held t false ≡ ((not (t == l.own) && (not (t == l.peer) && not (has_site l.asked t))) && nat_lt (get_or l.vector t 0) (get_or l.earlier t 0));
}
