use Rattle.std.proofs.Common.{[], arith, ◌∙◌}
use Rattle.zq_node.proofs.Called.{on_err}
use Rattle.zq_node.proofs.Nodes.{then_stopped, then_worked}
use Rattle.zq_node.proofs.node.Node.settle.Goals as goal

pub loop-preserved : goal.loop-preserved
loop-preserved g c =
    let is = c.loop.invariant in
    let less = c.in_ok-try_next.ensures.fewer c.if-branch.true in (
      c.in_ok-try_next.ensures.node,
      c.in_ok-try_next.ensures.home ∙ is.1,
      then_worked [] c.args.self.now c.loop.self c.try_next.new.self is.1 is.2 c.in_ok-try_next.ensures.work,
      (λ k apart. c.in_ok-try_next.ensures.others k apart ∙ is.3 k apart),
      omega (arith, less, is.4),
    )

pub returns-in_err-try_next-clause-stopped : goal.returns-in_err-try_next-clause-stopped
returns-in_err-try_next-clause-stopped g c =
    let is = c.loop.invariant in
    on_err _ _ (then_stopped [] c.args.self.now c.loop.self c.try_next.new.self is.1 is.2 c.in_err-try_next.ensures.stopped)

pub returns-clause-work : goal.returns-clause-work
returns-clause-work g c =
    let is = c.loop.invariant in
    then_worked [] c.args.self.now c.loop.self c.try_next.new.self is.1 is.2 c.in_ok-try_next.ensures.work

pub returns-clause-wait : goal.returns-clause-wait
returns-clause-wait g c = c.in_ok-try_next.ensures.wait c.if-branch.false
