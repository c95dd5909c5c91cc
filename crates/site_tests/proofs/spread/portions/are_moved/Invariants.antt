use Rattle.site_tests.proofs.spread.portions.are_moved.Given as goal
use Rattle.zq_spread.specs.Passes.{IsPassOf}

abbrev pub invariant-loop-heap : goal.invariant-loop-heap
invariant-loop-heap g l = IsPassOf l.a l.first × IsPassOf l.b l.second
