use Rattle.std.proofs.Common.{◌∙◌}
use Rattle.zq_replica.proofs.Gathers.{gathered_judged}
use Rattle.zq_replica.proofs.Judged.{weighed_by}
use Rattle.zq_replica.specs.Joined.{HasHeardControl}
use Rattle.zq_replica.specs.Told.{told_by_control}
use Rattle.zq_replica.proofs.replica.Replica.hear_control.Goals as goal

pub returns-clause-weighed : goal.returns-clause-weighed
returns-clause-weighed g c =
    let was = c.args.self.now in
    weighed_by c.hear_unfenced.result c.args.from
    (λ heap. told_by_control was.own was.heaps heap c.args.control.now)
    (HasHeardControl c.args.from c.args.control.now) c.args.node.now c.fences_by_control.new.node
    c.hear_unfenced.new.node was c.fences_by_control.new.self c.hear_unfenced.new.self
    c.args.out.now.items c.hear_unfenced.new.out.items c.in_ok-fences_by_control.field-0
    c.if-branch.false c.in_ok-fences_by_control.ensures.judged c.hear_unfenced.ensures.fenced
    c.hear_unfenced.ensures.heard

pub returns-then-branch-clause-gathered : goal.returns-then-branch-clause-gathered
returns-then-branch-clause-gathered g c =
    let was = c.args.self.now in
    gathered_judged c.args.from (λ heap. told_by_control was.own was.heaps heap c.args.control.now)
    c.args.node.now c.fences_by_control.new.node was c.fences_by_control.new.self
    c.in_ok-fences_by_control.field-0 c.in_ok-fences_by_control.ensures.judged

pub returns-clause-gathered : goal.returns-clause-gathered
returns-clause-gathered g c =
    let was = c.args.self.now in
    c.hear_unfenced.ensures.gathered
    ∙ gathered_judged c.args.from (λ heap. told_by_control was.own was.heaps heap c.args.control.now)
    c.args.node.now c.fences_by_control.new.node was c.fences_by_control.new.self
    c.in_ok-fences_by_control.field-0 c.in_ok-fences_by_control.ensures.judged
