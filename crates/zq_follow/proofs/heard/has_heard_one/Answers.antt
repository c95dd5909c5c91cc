use Rattle.std.proofs.Common.{arith, subst, sym, true, ◌≡◌, ◌∙◌}
use Rattle.std.specs.List.{list_all}
use Rattle.zq_dots.proofs.Counters.{sites_is}
use Rattle.zq_follow.proofs.EachSite.{any_site_at, any_site_none}
use Rattle.zq_follow.specs.SiteSet.{has_site}
use Rattle.zq_follow.proofs.heard.has_heard_one.Goals as goal

pub returns-then-is_heard : goal.returns-then-is_heard
returns-then-is_heard c =
    let there : list_all (λ of_heap. has_site of_heap c.loop-number.number) c.args.heard.now ≡ true = subst (λ o. list_all (λ of_heap. has_site of_heap o) c.args.heard.now ≡ true) c.site_of.ensures (sym c.is_heard.ensures ∙ c.if-is_heard.true) in
    sym (any_site_at (λ o. list_all (λ of_heap. has_site of_heap o) c.args.heard.now) c.loop-number.number (omega (arith, sites_is)) there)

pub returns : goal.returns
returns c =
    sym (any_site_none (λ o. list_all (λ of_heap. has_site of_heap o) c.args.heard.now) (λ t below. c.loop-number.invariant t (omega (arith, sites_is))))
