use Rattle.site_tests.proofs.spread.cutting.put_up_to.Given as goal
use Rattle.zq_spread.specs.Passes.{IsPassOf}

abbrev pub invariant-loop-score : goal.invariant-loop-score
invariant-loop-score g l = IsPassOf l.site l.pass
