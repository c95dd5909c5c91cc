use Rattle.site_tests.proofs.spread.draining.put_each.Given as goal
use Rattle.zq_spread.specs.Passes.{IsPassOf}

abbrev pub invariant-loop-score : goal.invariant-loop-score
invariant-loop-score g l = IsPassOf l.site l.pass
