use Rattle.zq_recovery.proofs.Stepping.{AreWholeTo}
use Rattle.zq_inspect.proofs.inspection.are_whole.Given as goal

abbrev pub invariant-loop-stage : goal.invariant-loop-stage
invariant-loop-stage l = AreWholeTo l.stage-index l.stages
