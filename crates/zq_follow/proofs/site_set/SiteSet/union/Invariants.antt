use Rattle.std.proofs.Common.{false, get_or, length, ℕ, ◌<◌, ◌||◌, ◌≡◌}
use Rattle.zq_model.specs.Sets.{SITES}
use Rattle.zq_follow.proofs.site_set.SiteSet.union.Given as goal

abbrev pub invariant-loop-site : goal.invariant-loop-site
invariant-loop-site l = record {
  wide : length l.held ≡ SITES;
  done : (t : ℕ) → t < l.site → get_or l.held t false ≡ (get_or l.self-inside.held t false || get_or l.other-inside.held t false);
}
