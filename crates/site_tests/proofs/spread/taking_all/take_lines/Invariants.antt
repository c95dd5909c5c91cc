use Rattle.site_tests.proofs.spread.taking_all.take_lines.Given as goal
use Rattle.zq_spread.specs.Passes.{IsPassOf}

abbrev pub invariant-loop-places : goal.invariant-loop-places
invariant-loop-places g l = IsPassOf l.site l.pass
