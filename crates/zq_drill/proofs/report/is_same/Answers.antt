use Rattle.zq_drill.proofs.Sames.{same_lists}
use Rattle.zq_drill.proofs.report.is_same.Goals as goal

pub returns : goal.returns
returns c = same_lists c.args.one.now c.args.other.now c.eq.result c.eq.ensures
