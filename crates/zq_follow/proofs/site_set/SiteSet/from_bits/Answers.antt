use Rattle.std.proofs.Common.{arith, false, ◌==◌}
use Rattle.std.specs.Int.{bit_at}
use Rattle.zq_dots.proofs.Counters.{sites_is}
use Rattle.zq_model.proofs.Sites.{by_site_from}
use Rattle.zq_follow.proofs.site_set.SiteSet.from_bits.Goals as goal

pub returns : goal.returns
returns c =
    by_site_from (λ o. bit_at c.args.bits o == 1) c.loop-site.held false c.loop-site.invariant.wide (λ t below. c.loop-site.invariant.done t (omega (arith, sites_is)))
