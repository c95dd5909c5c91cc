use Rattle.site_tests.proofs.spread.portions.gathered.Given as goal
use Rattle.zq_spread.specs.Passes.{IsPassOf}

abbrev pub invariant-loop-calls : goal.invariant-loop-calls
invariant-loop-calls g l = IsPassOf l.site l.pass
