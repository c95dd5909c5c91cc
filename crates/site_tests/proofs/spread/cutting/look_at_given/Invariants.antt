use Rattle.site_tests.proofs.spread.cutting.look_at_given.Given as goal
use Rattle.zq_spread.specs.Passes.{IsPassOf}

abbrev pub invariant-loop-operations : goal.invariant-loop-operations
invariant-loop-operations g l = IsPassOf l.site l.pass
