use Rattle.zq_trials.proofs.lines.all_asked.Given as goal
use Rattle.zq_spread.specs.Passes.{IsPassOf}

abbrev pub invariant-loop-line : goal.invariant-loop-line
invariant-loop-line g l = IsPassOf l.site l.pass
