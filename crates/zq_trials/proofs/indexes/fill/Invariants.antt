use Rattle.zq_trials.proofs.indexes.fill.Given as goal
use Rattle.zq_trials.specs.Books.{IsEven}

abbrev pub invariant-loop-number : goal.invariant-loop-number
invariant-loop-number l = IsEven l.book
