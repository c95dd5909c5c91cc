use Rattle.std.proofs.Common.{arith, not, sym, ◌&&◌}
use Rattle.std.proofs.lemmas.Bool.{and_from, not_from_false}
use Rattle.zq_dots.proofs.Counters.{sites_is}
use Rattle.zq_follow.proofs.EachSite.{any_site_at, any_site_none}
use Rattle.zq_follow.specs.SiteSet.{has_site}
use Rattle.zq_follow.proofs.site_set.SiteSet.lacks.Goals as goal

pub returns-then-not-self-site-clause-value : goal.returns-then-not-self-site-clause-value
returns-then-not-self-site-clause-value c =
    rw (← c.self.view_is, ← c.other.view_is)
    (sym (any_site_at (λ o. has_site c.other.inside.held o && not (has_site c.self.inside.held o)) c.loop-site.site (omega (arith, sites_is)) (and_from _ _ c.if-other-site.true (not_from_false _ c.if-not-self-site.true))))

pub returns-clause-value : goal.returns-clause-value
returns-clause-value c =
    rw (← c.self.view_is, ← c.other.view_is)
    (sym (any_site_none (λ o. has_site c.other.inside.held o && not (has_site c.self.inside.held o)) (λ t below. c.loop-site.invariant t (omega (arith, sites_is)))))
