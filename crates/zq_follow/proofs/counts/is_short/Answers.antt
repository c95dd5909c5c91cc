use Rattle.std.proofs.Common.{arith, get_or, sym, true, ◌&&◌, ◌<◌, ◌≡◌, lt-ltb}
use Rattle.std.proofs.lemmas.Bool.{and_from}
use Rattle.std.specs.Prelude.{nat_lt, slice_index}
use Rattle.zq_dots.proofs.Counters.{sites_is}
use Rattle.zq_follow.proofs.EachSite.{any_site_at, any_site_none}
use Rattle.zq_follow.specs.SiteSet.{has_site}
use Rattle.zq_follow.proofs.counts.is_short.Goals as goal

pub returns-then-get : goal.returns-then-get
returns-then-get c =
    let there : has_site c.args.sites.now c.loop-number.number ≡ true = cc in
    let less : get_or c.args.one.now c.loop-number.number 0 < get_or c.args.other.now c.loop-number.number 0 = grind arith in
    sym (any_site_at (λ o. has_site c.args.sites.now o && nat_lt (slice_index c.args.one.now o) (slice_index c.args.other.now o)) c.loop-number.number (omega (arith, sites_is)) (and_from _ _ there (lt-ltb _ _ less)))

pub returns : goal.returns
returns c =
    sym (any_site_none (λ o. has_site c.args.sites.now o && nat_lt (slice_index c.args.one.now o) (slice_index c.args.other.now o)) (λ t below. c.loop-number.invariant t (omega (arith, sites_is))))
