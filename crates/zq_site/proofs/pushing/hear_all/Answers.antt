use Rattle.std.proofs.Common.{subst, sym}
use Rattle.zq_node.specs.Node.{IsNode}
use Rattle.zq_site.proofs.pushing.hear_all.Goals as goal
use Rattle.zq_site.proofs.pushing.hear_all.Goals.{in-None, in-Some+then-is_fenced}

pub returns-clause-node : goal.returns-clause-node
returns-clause-node g c = elim c.match-next.branch [
  | in-None w ↦ subst IsNode (sym w.node-is) c.loop-event.invariant.0
  | in-Some+then-is_fenced w ↦ subst IsNode (sym w.node-is) w.hear.ensures.node
]
