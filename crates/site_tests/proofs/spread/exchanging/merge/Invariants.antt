use Rattle.site_tests.proofs.spread.exchanging.merge.Given as goal
use Rattle.zq_spread.specs.Passes.{IsPassOf}

abbrev pub invariant-loop-heap : goal.invariant-loop-heap
invariant-loop-heap g l = IsPassOf l.from l.giver × IsPassOf l.to l.taker
