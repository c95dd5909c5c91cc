use Rattle.zq_merge.proofs.SumLists.{AreListedTo}
use Rattle.zq_merge.proofs.sums.read_some_sums.Given as goal

abbrev pub invariant-loop-number : goal.invariant-loop-number
invariant-loop-number l = AreListedTo l.whole l.vector l.count l._number l.low l.initial.bytes.now l.bytes.now l.sums.items
