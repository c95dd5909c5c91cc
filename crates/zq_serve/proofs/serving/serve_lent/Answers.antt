use Rattle.std.proofs.Common.{arith}
use Rattle.zq_serve.proofs.ThreadLists.{planned_number}
use Rattle.zq_serve.proofs.serving.serve_lent.Goals as goal

pub open_links-requires : goal.open_links-requires
open_links-requires g c = omega (arith, planned_number c.args.settings.now c.args.sites.now c.requires, c.as_slice-listened.ensures.limits.1)
