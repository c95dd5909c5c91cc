use Rattle.zq_trials.proofs.books.take_all.Given as goal
use Rattle.zq_trials.specs.Books.{IsEven}

abbrev pub invariant-loop-op : goal.invariant-loop-op
invariant-loop-op l = IsEven l.book
