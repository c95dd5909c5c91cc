use Rattle.std.proofs.Common.{Err, ap, subst, ◌∙◌}
use Rattle.std.proofs.lemmas.List.{take_all}
use Rattle.zq_node.proofs.Nodes.{stopped_at, turns_next}
use Rattle.zq_node.proofs.Told.{if_err}
use Rattle.zq_node.proofs.node.Node.take_each.Goals as goal
use Rattle.zq_node.specs.Hearing.{AreOpsStopped}
use Rattle.zq_node.specs.Work.{AreTurns}

pub loop-op-preserved : goal.loop-op-preserved
loop-op-preserved g c =
    let is = c.loop-op.invariant in (
      c.in_ok-take.ensures.node,
      c.in_ok-take.ensures.home ∙ is.1,
      turns_next c.args.ops.now c.loop-op.op-index c.op-item.result c.args.self.now c.loop-op.self c.take.new.self c.loop-op-test.true c.op-item.is is.2 c.in_ok-take.ensures.turn,
    )

pub returns-in_err-take-clause-stopped : goal.returns-in_err-take-clause-stopped
returns-in_err-take-clause-stopped g c =
    let why = c.in_err-take.field-0.0 in
    if_err (AreOpsStopped c.args.ops.now c.args.self.now c.take.new.self) c.from_residual.result why c.from_residual.ensures.1
    (stopped_at c.args.ops.now c.loop-op.op-index c.op-item.result c.args.self.now c.loop-op.self c.take.new.self why c.loop-op-test.true c.op-item.is c.loop-op.invariant.2
    c.in_err-take.ensures.stop c.in_err-take.ensures.stopped (λ wrong. c.in_err-take.ensures.unheard (ap (λ f. Err f) wrong)) (λ none. c.in_err-take.ensures.short (ap (λ f. Err f) none)) (λ last. c.in_err-take.ensures.worn (ap (λ f. Err f) last)))

pub returns-clause-turns : goal.returns-clause-turns
returns-clause-turns g c = subst (λ l. AreTurns l c.args.self.now c.loop-op.self) (take_all c.loop-op.op-index c.args.ops.now c.loop-op-test.false) c.loop-op.invariant.2
