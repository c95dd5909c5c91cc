use Rattle.zq_node.proofs.tests.playing.put_all.Given as goal
use Rattle.zq_node.specs.Node.{IsNode}

abbrev pub invariant-loop-score : goal.invariant-loop-score
invariant-loop-score g l = IsNode l.node
