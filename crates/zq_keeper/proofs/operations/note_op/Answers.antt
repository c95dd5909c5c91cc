use Rattle.zq_keeper.proofs.Noting.{takes_at}
use Rattle.zq_keeper.proofs.operations.note_op.Goals as goal

pub returns-then-is_placed-clause-noted : goal.returns-then-is_placed-clause-noted
returns-then-is_placed-clause-noted c =
    takes_at c.note_in.result c.args.identity.now c.args.op.now c.args.outlines.now
    c.heap-place.result c.index-outlines-place.result c.note_in.new.outline c.ranged.ensures
    (c.is_placed.ensures c.if-is_placed.true) c.heap-place.ensures.same c.if-place-outlines.true
    c.note_in.ensures.noted
