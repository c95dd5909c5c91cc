use Rattle.zq_node.proofs.tests.playing.hears_often.Given as goal
use Rattle.zq_node.specs.Node.{IsNode}

abbrev pub invariant-loop-time : goal.invariant-loop-time
invariant-loop-time g l = IsNode l.node
