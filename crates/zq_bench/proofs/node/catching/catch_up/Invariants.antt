use Rattle.zq_bench.proofs.node.catching.catch_up.Given as goal
use Rattle.zq_node.specs.Node.{IsNode}

abbrev pub invariant-loop-turn : goal.invariant-loop-turn
invariant-loop-turn g l = IsNode l.asker × IsNode l.asked
