use Rattle.std.proofs.Common.{false, get_or, not, ℕ, ◌&&◌, ◌<◌, ◌≡◌}
use Rattle.zq_follow.proofs.site_set.SiteSet.lacks.Given as goal

abbrev pub invariant-loop-site : goal.invariant-loop-site
invariant-loop-site l =
    (t : ℕ) → t < l.site → (get_or l.other-inside.held t false && not (get_or l.self-inside.held t false)) ≡ false
