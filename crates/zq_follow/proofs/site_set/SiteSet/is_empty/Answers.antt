use Rattle.std.proofs.Common.{Bool, List, ap, arith, false, get_or, refl, sym, ◌∙◌}
use Rattle.std.proofs.lemmas.Bool.{both_ways, false≢true}
use Rattle.zq_dots.proofs.Counters.{sites_is}
use Rattle.zq_model.proofs.Sites.{by_site-at, by_site_from}
use Rattle.zq_follow.proofs.site_set.SiteSet.is_empty.Goals as goal

pub returns-then-self-site : goal.returns-then-self-site
returns-then-self-site c = (
  λ yes. absurd (false≢true yes),
  λ none. absurd (both_ways (get_or c.self.inside.held c.loop-site.site false) (ap (λ (sites : List Bool). get_or sites c.loop-site.site false) (c.self.view_is ∙ none) ∙ by_site-at (λ _. false) c.loop-site.site false (omega (arith, sites_is))) c.if-self-site.true),
)

pub returns : goal.returns
returns c = (
  λ _. sym c.self.view_is ∙ by_site_from (λ _. false) c.self.inside.held false c.self.invariant (λ t below. c.loop-site.invariant t (omega (arith, sites_is))),
  λ _. refl,
)
