use Rattle.std.proofs.Common.{take}
use Rattle.zq_keeper.specs.Operations.{TakesOps}
use Rattle.zq_keeper.proofs.operations.note_ops.Given as goal

abbrev pub invariant-loop-op : goal.invariant-loop-op
invariant-loop-op l =
    TakesOps l.identity (take l.op-index l.ops) l.initial.outlines l.outlines
