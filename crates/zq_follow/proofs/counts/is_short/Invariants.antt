use Rattle.std.proofs.Common.{false, get_or, ℕ, ◌&&◌, ◌<◌, ◌≡◌}
use Rattle.std.specs.Prelude.{nat_lt}
use Rattle.zq_follow.specs.SiteSet.{has_site}
use Rattle.zq_follow.proofs.counts.is_short.Given as goal

abbrev pub invariant-loop-number : goal.invariant-loop-number
invariant-loop-number l =
    (t : ℕ) → t < l.number → (has_site l.sites t && nat_lt (get_or l.one t 0) (get_or l.other t 0)) ≡ false
