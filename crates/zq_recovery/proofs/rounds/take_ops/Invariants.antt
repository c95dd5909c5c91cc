use Rattle.std.proofs.Common.{take}
use Rattle.zq_recovery.specs.Step.{TakesAll}
use Rattle.zq_recovery.proofs.rounds.take_ops.Given as goal

abbrev pub invariant-loop-op : goal.invariant-loop-op
invariant-loop-op l = TakesAll (take l.op-index l.ops) l.initial.stages l.stages
