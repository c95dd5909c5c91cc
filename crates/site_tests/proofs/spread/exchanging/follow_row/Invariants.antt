use Rattle.site_tests.proofs.spread.exchanging.follow_row.Given as goal
use Rattle.zq_spread.specs.Passes.{IsPassOf}

abbrev pub invariant-loop-step : goal.invariant-loop-step
invariant-loop-step g l = IsPassOf l.a l.first × IsPassOf l.b l.second
