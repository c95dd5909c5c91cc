use Rattle.zq_node.proofs.tests.playing.hears_each.Given as goal
use Rattle.zq_node.specs.Node.{IsNode}

abbrev pub invariant-loop-n : goal.invariant-loop-n
invariant-loop-n g l = IsNode l.node
