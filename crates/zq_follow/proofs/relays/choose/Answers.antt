use Rattle.std.proofs.Common.{None, arith}
use Rattle.zq_dots.proofs.Counters.{sites_is}
use Rattle.zq_model.proofs.Sites.{by_site_from}
use Rattle.zq_follow.specs.Routes.{nearest}
use Rattle.zq_follow.proofs.relays.choose.Goals as goal

pub returns : goal.returns
returns c =
    by_site_from (λ o. nearest o c.args.reaches.now) c.loop-number.chosen None c.loop-number.invariant.wide (λ t below. c.loop-number.invariant.done t (omega (arith, sites_is)))
