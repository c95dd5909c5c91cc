use Rattle.std.proofs.Common.{refl, subst, sym, ◌∙◌}
use Rattle.zq_keeper.proofs.Written.{chosen_no, one_noted}
use Rattle.zq_keeper.specs.Operations.{TakesEach}
use Rattle.zq_keeper.proofs.operations.note_one.Goals as goal

pub returns-then-is_chosen-clause-noted : goal.returns-then-is_chosen-clause-noted
returns-then-is_chosen-clause-noted c =
    one_noted c.note_ops.result c.args.identity.now c.args.parts.now c.args.batch.now
    c.ops.result.now c.args.outlines.now c.note_ops.new.outlines c.ops.ensures.same
    (sym c.is_chosen.ensures ∙ c.if-is_chosen.true) c.note_ops.ensures.noted

pub returns-else-is_chosen-clause-noted : goal.returns-else-is_chosen-clause-noted
returns-else-is_chosen-clause-noted c =
    subst (λ l. TakesEach c.args.identity.now l c.args.outlines.now c.args.outlines.now)
    (sym (chosen_no c.args.parts.now c.args.batch.now
    (sym c.is_chosen.ensures ∙ c.if-is_chosen.false))) refl
