use Rattle.std.proofs.Common.{arith, false, not, ◌&&◌, ◌==◌, ◌∙◌}
use Rattle.std.specs.Prelude.{nat_lt, slice_index}
use Rattle.zq_dots.proofs.Counters.{sites_is}
use Rattle.zq_model.proofs.Sites.{by_site_from}
use Rattle.zq_follow.specs.SiteSet.{has_site}
use Rattle.zq_follow.proofs.missing.overdue.Goals as goal

pub returns : goal.returns
returns c =
    c.from_array.ensures
    ∙ by_site_from (λ o. (not (o == c.args.own) && (not (o == c.args.peer) && not (has_site c.args.asked.now o))) && nat_lt (slice_index c.args.vector.now o) (slice_index c.args.earlier.now o)) c.loop-number.held false c.loop-number.invariant.wide (λ t below. c.loop-number.invariant.done t (omega (arith, sites_is)))
