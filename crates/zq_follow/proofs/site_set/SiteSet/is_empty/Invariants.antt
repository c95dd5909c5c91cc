use Rattle.std.proofs.Common.{false, get_or, ℕ, ◌<◌, ◌≡◌}
use Rattle.zq_follow.proofs.site_set.SiteSet.is_empty.Given as goal

abbrev pub invariant-loop-site : goal.invariant-loop-site
invariant-loop-site l = (t : ℕ) → t < l.site → get_or l.self-inside.held t false ≡ false
