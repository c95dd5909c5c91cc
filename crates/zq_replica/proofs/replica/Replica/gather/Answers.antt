use Rattle.std.proofs.Common.{inl, inr, ◌∙◌}
use Rattle.zq_replica.proofs.Replaced.{completed_by, gathered_with}
use Rattle.zq_replica.proofs.replica.Replica.gather.Goals as goal

pub returns-in-Ok-true-clause-completed : goal.returns-in-Ok-true-clause-completed
returns-in-Ok-true-clause-completed g c =
    completed_by c.args.from c.args.piece c.args.self.now c.add_piece.new.self.gathering
    c.finish.new.self.gathering c.args.node.now c.finish.new.node
    (c.in-Ok-true.ensures.added c.in-Ok-true.field-0-test) c.finish.ensures.finished

pub returns-in-Ok-true-clause-gathers : goal.returns-in-Ok-true-clause-gathers
returns-in-Ok-true-clause-gathers g c =
    gathered_with c.args.from c.args.piece c.args.self.now c.add_piece.new.self.gathering
    c.finish.new.self.gathering c.args.node.now c.finish.new.node
    (c.in-Ok-true.ensures.added c.in-Ok-true.field-0-test) c.finish.ensures.finished

pub returns-in-Ok-false-clause-gathers : goal.returns-in-Ok-false-clause-gathers
returns-in-Ok-false-clause-gathers g c =
    inl (c.in-Ok-false.ensures.passed c.in-Ok-false.field-0-test)

pub returns-in-Err-clause-gathers : goal.returns-in-Err-clause-gathers
returns-in-Err-clause-gathers g c =
    inr (inr (inr (c.in-Err.ensures.stray, c.give_up.ensures.none)))

pub returns-in-Ok-true-clause-standing : goal.returns-in-Ok-true-clause-standing
returns-in-Ok-true-clause-standing g c =
    c.finish.ensures.standing ∙ c.add_piece.ensures.standing

pub returns-in-Err-clause-standing : goal.returns-in-Err-clause-standing
returns-in-Err-clause-standing g c =
    c.give_up.ensures.standing ∙ c.add_piece.ensures.standing
