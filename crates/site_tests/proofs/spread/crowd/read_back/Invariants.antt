use Rattle.site_tests.proofs.spread.crowd.read_back.Given as goal
use Rattle.zq_spread.specs.Passes.{IsPassOf}

abbrev pub invariant-loop-time : goal.invariant-loop-time
invariant-loop-time g l = IsPassOf l.site l.pass
