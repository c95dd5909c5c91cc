use Rattle.zq_hostile.proofs.links.hear_each.Given as goal
use Rattle.zq_node.specs.Node.{IsNode}

abbrev pub invariant-loop-bytes : goal.invariant-loop-bytes
invariant-loop-bytes g l = IsNode l.node
