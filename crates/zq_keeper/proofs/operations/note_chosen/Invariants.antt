use Rattle.std.proofs.Common.{take}
use Rattle.zq_keeper.specs.Operations.{TakesEach, chosen}
use Rattle.zq_keeper.proofs.operations.note_chosen.Given as goal

abbrev pub invariant-loop-batch : goal.invariant-loop-batch
invariant-loop-batch l =
    TakesEach l.identity (chosen l.parts (take l.batch-index l.batches)) l.initial.outlines
    l.outlines
