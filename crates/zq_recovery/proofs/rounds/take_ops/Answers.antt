use Rattle.zq_recovery.proofs.Stepping.{all_next}
use Rattle.zq_recovery.proofs.rounds.take_ops.Goals as goal

pub loop-op-preserved : goal.loop-op-preserved
loop-op-preserved c =
    all_next c.args.ops.now c.op-item.result c.loop-op.op-index c.args.stages.now c.loop-op.stages
    c.take_op.new.stages c.loop-op-test.true c.op-item.is c.loop-op.invariant
    c.in_ok-take_op.ensures.taken
