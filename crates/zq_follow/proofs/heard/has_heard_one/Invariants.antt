use Rattle.std.proofs.Common.{false, ℕ, ◌<◌, ◌≡◌}
use Rattle.std.specs.List.{list_all}
use Rattle.zq_follow.specs.SiteSet.{has_site}
use Rattle.zq_follow.proofs.heard.has_heard_one.Given as goal

abbrev pub invariant-loop-number : goal.invariant-loop-number
invariant-loop-number l =
    (t : ℕ) → t < l.number → list_all (λ of_heap. has_site of_heap t) l.heard ≡ false
