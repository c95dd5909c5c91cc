use Rattle.zq_batch.proofs.Latest.{last_found}
use Rattle.zq_batch.proofs.before.last_op.Goals as goal

pub returns : goal.returns
returns c = last_found _ c.args.before.now c.in_ok-view.view.now c.in_ok-view.ensures.cases.0
