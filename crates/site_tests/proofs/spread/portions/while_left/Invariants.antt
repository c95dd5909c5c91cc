use Rattle.site_tests.proofs.spread.portions.while_left.Given as goal
use Rattle.zq_spread.specs.Passes.{IsPassOf}

abbrev pub invariant-loop-portion : goal.invariant-loop-portion
invariant-loop-portion g l = IsPassOf l.site l.pass
