use Rattle.std.proofs.Common.{arith}
use Rattle.zq_site.proofs.Planned.{manned_site, one_site}
use Rattle.zq_site.proofs.serving.serve_lent.Goals as goal

pub unreachable-requires : goal.unreachable-requires
unreachable-requires g c =
    let one = one_site c.args.settings.now c.args.workers c.requires.0 c.args.sites.now c.requires.1 c.requires.2 in
    omega (arith, one, c.in_default.ensures.item.3)

pub serve_one-requires-after_bounds : goal.serve_one-requires-after_bounds
serve_one-requires-after_bounds g c κs within = manned_site c.args.settings.now c.args.workers c.requires.0 c.args.sites.now c.in-Some.site.now c.requires.1 c.requires.2 c.in-Some.ensures.item.1
