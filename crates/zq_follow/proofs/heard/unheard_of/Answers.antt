use Rattle.std.proofs.Common.{arith, false, not, ◌&&◌, ◌∙◌}
use Rattle.std.specs.List.{list_all}
use Rattle.zq_dots.proofs.Counters.{sites_is}
use Rattle.zq_model.proofs.Sites.{by_site_from}
use Rattle.zq_follow.specs.SiteSet.{has_site}
use Rattle.zq_follow.proofs.heard.unheard_of.Goals as goal

pub returns : goal.returns
returns c =
    c.from_array.ensures
    ∙ by_site_from (λ o. has_site c.args.peers.now o && not (list_all (λ of_heap. has_site of_heap o) c.args.heard.now)) c.loop-number.held false c.loop-number.invariant.wide (λ t below. c.loop-number.invariant.done t (omega (arith, sites_is)))
