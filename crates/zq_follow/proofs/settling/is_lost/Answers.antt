use Rattle.std.proofs.Common.{arith, get_or, sym, ◌&&◌, ◌<◌, lt-ltb}
use Rattle.std.proofs.lemmas.Bool.{and_from}
use Rattle.std.specs.Prelude.{nat_lt, slice_index}
use Rattle.zq_dots.proofs.Counters.{sites_is}
use Rattle.zq_follow.proofs.EachSite.{any_site_at, any_site_none}
use Rattle.zq_follow.proofs.settling.is_lost.Goals as goal

pub returns-then-has-get-2 : goal.returns-then-has-get-2
returns-then-has-get-2 c =
    let lacks : get_or c.args.heard.now c.loop-number.number 0 < get_or c.args.probed.now c.loop-number.number 0 = grind arith in
    let lost : get_or c.args.heard.now c.loop-number.number 0 < get_or c.args.sent.now c.loop-number.number 0 = grind arith in
    sym (any_site_at (λ o. nat_lt (slice_index c.args.heard.now o) (slice_index c.args.probed.now o) && nat_lt (slice_index c.args.heard.now o) (slice_index c.args.sent.now o)) c.loop-number.number (omega (arith, sites_is)) (and_from _ _ (lt-ltb _ _ lacks) (lt-ltb _ _ lost)))

pub returns : goal.returns
returns c =
    sym (any_site_none (λ o. nat_lt (slice_index c.args.heard.now o) (slice_index c.args.probed.now o) && nat_lt (slice_index c.args.heard.now o) (slice_index c.args.sent.now o)) (λ t below. c.loop-number.invariant t (omega (arith, sites_is))))
