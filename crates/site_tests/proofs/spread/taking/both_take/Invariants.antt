use Rattle.site_tests.proofs.spread.taking.both_take.Given as goal
use Rattle.zq_spread.specs.Passes.{IsPassOf}

abbrev pub invariant-loop-heap : goal.invariant-loop-heap
invariant-loop-heap g l = IsPassOf l.site l.first × IsPassOf l.site l.second
