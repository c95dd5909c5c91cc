use Rattle.zq_bench.proofs.pops.popping.pop_in_turn.Given as goal
use Rattle.zq_spread.specs.Passes.{IsPassOf}

abbrev pub invariant-loop-call : goal.invariant-loop-call
invariant-loop-call g l = IsPassOf l.site l.pass
