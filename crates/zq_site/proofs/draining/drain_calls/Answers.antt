use Rattle.std.proofs.Common.{subst, sym}
use Rattle.zq_node.specs.Node.{IsNode}
use Rattle.zq_site.proofs.draining.drain_calls.Goals as goal
use Rattle.zq_site.proofs.draining.drain_calls.Goals.{in-None, in-Some+then-not-goes_on, in-Some+else-not-goes_on+then-wait}

pub returns-clause-node : goal.returns-clause-node
returns-clause-node g c =
    elim c.match-next.branch [
      | in-None w ↦ subst IsNode (sym w.node-is) c.loop.invariant.0
      | in-Some+then-not-goes_on w ↦ subst IsNode (sym w.node-is) c.loop.invariant.0
      | in-Some+else-not-goes_on+then-wait w ↦ subst IsNode (sym w.node-is) w.drain_and_look-is_left.ensures.node
    ]
