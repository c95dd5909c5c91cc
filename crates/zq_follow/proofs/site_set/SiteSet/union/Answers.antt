use Rattle.std.proofs.Common.{arith, false, ◌||◌}
use Rattle.zq_dots.proofs.Counters.{sites_is}
use Rattle.zq_model.proofs.Sites.{by_site_from}
use Rattle.zq_follow.specs.SiteSet.{has_site}
use Rattle.zq_follow.proofs.site_set.SiteSet.union.Goals as goal

pub returns : goal.returns
returns c =
    rw (← c.self.view_is, ← c.other.view_is)
    (by_site_from (λ o. has_site c.self.inside.held o || has_site c.other.inside.held o) c.loop-site.held false c.loop-site.invariant.wide (λ t below. c.loop-site.invariant.done t (omega (arith, sites_is))))
