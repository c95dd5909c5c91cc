use Rattle.std.proofs.Common.{arith}
use Rattle.zq_dots.proofs.Counters.{sites_is}
use Rattle.zq_serve.proofs.plans.site_at.Goals as goal

pub unreachable-requires : goal.unreachable-requires
unreachable-requires c = c.in-None.ensures (omega (arith, sites_is, c.requires))
