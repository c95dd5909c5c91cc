use Rattle.zq_node.proofs.tests.playing.play_each.Given as goal
use Rattle.zq_node.specs.Node.{IsNode}

abbrev pub invariant-loop-at : goal.invariant-loop-at
invariant-loop-at g l = IsNode l.zero × IsNode l.one
