use Rattle.site_tests.proofs.spread.draining.follow_rows.Given as goal
use Rattle.zq_spread.specs.Passes.{IsPassOf}

abbrev pub invariant-loop-scores : goal.invariant-loop-scores
invariant-loop-scores g l = IsPassOf l.site l.pass
