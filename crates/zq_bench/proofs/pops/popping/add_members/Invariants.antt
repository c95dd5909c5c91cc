use Rattle.zq_bench.proofs.pops.popping.add_members.Given as goal
use Rattle.zq_spread.specs.Passes.{IsPassOf}

abbrev pub invariant-loop-member : goal.invariant-loop-member
invariant-loop-member g l = IsPassOf l.site l.pass
