use Rattle.std.proofs.Common.{subst}
use Rattle.zq_recovery.proofs.Stepping.{each_next}
use Rattle.zq_recovery.specs.Step.{TakesAll}
use Rattle.zq_recovery.proofs.rounds.take_batches.Goals as goal

pub loop-batch-preserved : goal.loop-batch-preserved
loop-batch-preserved c =
    each_next c.args.batches.now c.batch-item.result c.loop-batch.batch-index c.args.stages.now
    c.loop-batch.stages c.take_ops.new.stages c.loop-batch-test.true c.batch-item.is
    c.loop-batch.invariant
    (subst (λ ops. TakesAll ops c.loop-batch.stages c.take_ops.new.stages) c.ops.ensures.same
    c.in_ok-take_ops.ensures.taken)
