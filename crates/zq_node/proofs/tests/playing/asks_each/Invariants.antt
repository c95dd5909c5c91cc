use Rattle.zq_node.proofs.tests.playing.asks_each.Given as goal
use Rattle.zq_node.specs.Node.{IsNode}

abbrev pub invariant-loop-heap : goal.invariant-loop-heap
invariant-loop-heap g l = IsNode l.asker × IsNode l.asked
