use Rattle.site_tests.proofs.spread.portions.is_taken_over.Given as goal
use Rattle.zq_spread.specs.Passes.{IsPassOf}

abbrev pub invariant-loop-op : goal.invariant-loop-op
invariant-loop-op g l = IsPassOf l.a l.first
