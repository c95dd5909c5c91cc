use Rattle.zq_bench.proofs.node.making.add_members.Given as goal
use Rattle.zq_spread.specs.Passes.{IsPassOf}

abbrev pub invariant-loop-turn : goal.invariant-loop-turn
invariant-loop-turn g l = IsPassOf l.site l.pass
