use Rattle.zq_semantics.proofs.Lifted.{run_alone}
use Rattle.zq_semantics.proofs.Narrow.{plan_alone, plan_nowhere}
use Rattle.zq_semantics.proofs.heaps.narrowing.Goals as goal

pub returns : goal.returns
returns c = record { one = plan_alone; none = plan_nowhere; run = run_alone }
