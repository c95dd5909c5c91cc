use Rattle.zq_backlog.proofs.Skips.{IsSkippedBelow}
use Rattle.zq_backlog.proofs.backlog.skip_base.Given as goal

abbrev pub invariant-loop-number : goal.invariant-loop-number
invariant-loop-number l = IsSkippedBelow l.initial.base l.last l.v l.number l.base
