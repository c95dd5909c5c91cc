use Rattle.std.proofs.Common.{take}
use Rattle.zq_keeper.specs.Operations.{TakesEach}
use Rattle.zq_keeper.proofs.operations.note_batches.Given as goal

abbrev pub invariant-loop-batch : goal.invariant-loop-batch
invariant-loop-batch l =
    TakesEach l.identity (take l.batch-index l.batches) l.initial.outlines l.outlines
