use Rattle.std.proofs.Common.{subst}
use Rattle.zq_keeper.proofs.Noting.{each_next}
use Rattle.zq_keeper.specs.Operations.{TakesOps}
use Rattle.zq_keeper.proofs.operations.note_batches.Goals as goal

pub loop-batch-preserved : goal.loop-batch-preserved
loop-batch-preserved c =
    each_next c.args.identity.now c.args.batches.now c.batch-item.result c.loop-batch.batch-index
    c.args.outlines.now c.loop-batch.outlines c.note_ops.new.outlines c.loop-batch-test.true
    c.batch-item.is c.loop-batch.invariant
    (subst (λ ops. TakesOps c.args.identity.now ops c.loop-batch.outlines c.note_ops.new.outlines)
    c.ops.ensures.same c.in_ok-note_ops.ensures.noted)
