use Rattle.std.proofs.Common.{[], ap, arith, ◌∙◌}
use Rattle.zq_node.proofs.Called.{on_err}
use Rattle.zq_node.proofs.Nodes.{home_site, then_stopped, then_worked, waits_more}
use Rattle.zq_node.proofs.node.Node.settle_all.Goals as goal
use Rattle.zq_spread.specs.Calls.{heaps_of}

pub settle-requires-clause-heap : goal.settle-requires-clause-heap
settle-requires-clause-heap g c =
    let same = ap heaps_of (home_site c.args.self.now c.loop-heap.self c.loop-heap.invariant.1) in
    omega (arith, c.loop-heap-test.true, c.requires.node.home.heaps, same)

pub loop-heap-preserved : goal.loop-heap-preserved
loop-heap-preserved g c =
    let is = c.loop-heap.invariant in (
      c.in_ok-settle.ensures.node,
      c.in_ok-settle.ensures.home ∙ is.1,
      then_worked [] c.args.self.now c.loop-heap.self c.settle.new.self is.1 is.2 c.in_ok-settle.ensures.work,
      waits_more c.loop-heap.self c.settle.new.self c.loop-heap.heap c.in_ok-settle.ensures.work c.in_ok-settle.ensures.others c.in_ok-settle.ensures.wait is.3,
    )

pub returns-in_err-settle-clause-stopped : goal.returns-in_err-settle-clause-stopped
returns-in_err-settle-clause-stopped g c =
    let is = c.loop-heap.invariant in
    on_err _ _ (then_stopped [] c.args.self.now c.loop-heap.self c.settle.new.self is.1 is.2 c.in_err-settle.ensures.stopped)

pub returns-clause-wait : goal.returns-clause-wait
returns-clause-wait g c = λ o here.
    let same = ap heaps_of (home_site c.args.self.now c.loop-heap.self c.loop-heap.invariant.1) in
    let within = (c.loop-heap.invariant.0.parked o here).1 in
    c.loop-heap.invariant.3 o here (omega (arith, c.loop-heap-test.false, c.requires.node.home.heaps, same, within))
