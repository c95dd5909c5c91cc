use Rattle.zq_bench.proofs.node.catching.hear_all.Given as goal
use Rattle.zq_node.specs.Node.{IsNode, IsSameHome}

abbrev pub invariant-loop-told : goal.invariant-loop-told
invariant-loop-told g l = IsNode l.node × IsSameHome l.fn.node l.node
