use Rattle.zq_bench.proofs.node.catching.ask_once.Given as goal
use Rattle.zq_node.specs.Node.{IsNode}

abbrev pub invariant-loop-have : goal.invariant-loop-have
invariant-loop-have g l = IsNode l.asker × IsNode l.asked
