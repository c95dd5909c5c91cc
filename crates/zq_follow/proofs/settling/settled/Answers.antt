use Rattle.std.proofs.Common.{arith}
use Rattle.std.specs.Prelude.{slice_index}
use Rattle.zq_dots.proofs.Counters.{sites_is}
use Rattle.zq_model.proofs.Sites.{by_site_from}
use Rattle.zq_follow.specs.Sent.{settled_at}
use Rattle.zq_follow.proofs.settling.settled.Goals as goal

pub returns : goal.returns
returns c =
    by_site_from (λ o. settled_at (slice_index c.args.sent.now o) (slice_index c.args.probed.now o) (slice_index c.args.heard.now o)) c.loop-number.settled 0 c.loop-number.invariant.wide (λ t below. c.loop-number.invariant.done t (omega (arith, sites_is)))
