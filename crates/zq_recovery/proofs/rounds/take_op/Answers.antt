use Rattle.zq_recovery.proofs.Stepping.{takes_at}
use Rattle.zq_recovery.proofs.rounds.take_op.Goals as goal

pub returns-then-place-stages-clause-taken : goal.returns-then-place-stages-clause-taken
returns-then-place-stages-clause-taken c =
    takes_at c.take_in.result c.args.op.now c.args.stages.now c.heap-place.result
    c.index-stages-place.result c.take_in.new.stage c.heap-place.ensures.same
    c.if-place-stages.true c.take_in.ensures.taken
