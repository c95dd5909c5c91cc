use Rattle.zq_adopt.proofs.judging.are_whole.Given as goal
use Rattle.zq_recovery.proofs.Stepping.{AreWholeTo}

abbrev pub invariant-loop-stage : goal.invariant-loop-stage
invariant-loop-stage l = AreWholeTo l.stage-index l.stages
