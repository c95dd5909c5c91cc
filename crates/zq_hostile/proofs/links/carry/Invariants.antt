use Rattle.zq_hostile.proofs.links.carry.Given as goal
use Rattle.zq_node.specs.Node.{IsNode}

abbrev pub invariant-loop-op : goal.invariant-loop-op
invariant-loop-op g l = IsNode l.node
