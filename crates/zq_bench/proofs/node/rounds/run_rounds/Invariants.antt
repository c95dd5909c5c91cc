use Rattle.zq_bench.proofs.node.rounds.run_rounds.Given as goal
use Rattle.zq_node.specs.Node.{IsNode}
use Rattle.zq_spread.specs.Passes.{IsPassOf}

abbrev pub invariant-loop-turn : goal.invariant-loop-turn
invariant-loop-turn g l = IsPassOf l.site l.pass × IsNode l.asked × IsNode l.asker
