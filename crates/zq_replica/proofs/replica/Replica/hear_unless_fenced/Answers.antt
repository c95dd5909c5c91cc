use Rattle.zq_replica.proofs.Asked.{given_after}
use Rattle.std.proofs.Common.{ap, inl, subst, sym}
use Rattle.zq_replica.proofs.Gathers.{frame_after, gathered_judged}
use Rattle.zq_replica.proofs.Judged.{weighed_by}
use Rattle.zq_replica.specs.Joined.{HasHeardFrame}
use Rattle.zq_replica.specs.Told.{told_by}
use Rattle.zq_replica.specs.declared.joining.Joining.{Joining}
use Rattle.zq_replica.proofs.replica.Replica.hear_unless_fenced.Goals as goal

pub returns-clause-given : goal.returns-clause-given
returns-clause-given g c =
    given_after c.args.frame.now c.args.node.now c.fences_by.new.node c.hear_frame-2.new.node
    c.fences_by.ensures.shows c.hear_frame-2.ensures.given

pub returns-clause-weighed : goal.returns-clause-weighed
returns-clause-weighed g c =
    let was = c.args.self.now in
    let standing = c.hear_frame-2.ensures.standing in
    weighed_by c.hear_frame-2.result c.args.from
    (λ heap. told_by was.own was.heaps heap c.args.frame.now)
    (HasHeardFrame c.args.from c.args.frame.now) c.args.node.now c.fences_by.new.node
    c.hear_frame-2.new.node was c.fences_by.new.self c.hear_frame-2.new.self
    c.args.out.now.items c.hear_frame-2.new.out.items c.in_ok-fences_by.field-0
    c.if-branch.false c.in_ok-fences_by.ensures.judged (ap (λ p. p.0) standing)
    (subst (λ (j : Joining). HasHeardFrame c.args.from c.args.frame.now c.fences_by.new.self.joining j) (sym (ap (λ p. p.1) standing)) c.hear_frame.ensures)

pub returns-then-branch-clause-gathers : goal.returns-then-branch-clause-gathers
returns-then-branch-clause-gathers g c =
    let was = c.args.self.now in
    inl (gathered_judged c.args.from (λ heap. told_by was.own was.heaps heap c.args.frame.now)
    c.args.node.now c.fences_by.new.node was c.fences_by.new.self c.in_ok-fences_by.field-0
    c.in_ok-fences_by.ensures.judged)

pub returns-clause-gathers : goal.returns-clause-gathers
returns-clause-gathers g c =
    let was = c.args.self.now in
    frame_after c.args.from (λ heap. told_by was.own was.heaps heap c.args.frame.now)
    c.args.frame.now c.args.node.now c.fences_by.new.node was c.fences_by.new.self
    c.hear_frame.new.self c.hear_frame-2.new.self.gathering c.in_ok-fences_by.field-0
    c.if-branch.false
    c.in_ok-fences_by.ensures.judged c.hear_frame-2.ensures.gathers
