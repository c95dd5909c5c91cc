use Rattle.zq_keeper.proofs.Noting.{ops_next}
use Rattle.zq_keeper.proofs.operations.note_ops.Goals as goal

pub loop-op-preserved : goal.loop-op-preserved
loop-op-preserved c =
    ops_next c.args.identity.now c.args.ops.now c.op-item.result c.loop-op.op-index
    c.args.outlines.now c.loop-op.outlines c.note_op.new.outlines c.loop-op-test.true c.op-item.is
    c.loop-op.invariant c.in_ok-note_op.ensures.noted
