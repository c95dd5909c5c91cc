use Rattle.zq_recovery.proofs.Stepping.{comes_at}
use Rattle.zq_recovery.proofs.pieces.take_piece.Goals as goal

pub returns-then-place-stages-clause-comes : goal.returns-then-place-stages-clause-comes
returns-then-place-stages-clause-comes c =
    comes_at c.take_in.result c.args.piece c.args.stages.now c.heap-place.result
    c.index-stages-place.result c.take_in.new.stage c.heap-place.ensures.same
    c.if-place-stages.true c.take_in.ensures.comes
