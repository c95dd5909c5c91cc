use Rattle.zq_node.proofs.tests.playing.are_same.Given as goal
use Rattle.zq_node.specs.Node.{IsNode}

abbrev pub invariant-loop-heap : goal.invariant-loop-heap
invariant-loop-heap g l = IsNode l.zero × IsNode l.one
