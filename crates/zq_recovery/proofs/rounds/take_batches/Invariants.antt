use Rattle.std.proofs.Common.{take}
use Rattle.zq_recovery.specs.Step.{TakesEach}
use Rattle.zq_recovery.proofs.rounds.take_batches.Given as goal

abbrev pub invariant-loop-batch : goal.invariant-loop-batch
invariant-loop-batch l = TakesEach (take l.batch-index l.batches) l.initial.stages l.stages
