use Rattle.zq_keeper.proofs.Written.{chosen_next}
use Rattle.zq_keeper.proofs.operations.note_chosen.Goals as goal

pub loop-batch-preserved : goal.loop-batch-preserved
loop-batch-preserved c =
    chosen_next c.args.identity.now c.args.parts.now c.args.batches.now c.loop-batch.batch-index
    c.batch-item.result c.args.outlines.now c.loop-batch.outlines c.note_one.new.outlines
    c.loop-batch-test.true c.batch-item.is c.loop-batch.invariant c.in_ok-note_one.ensures.noted
