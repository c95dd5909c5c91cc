use Rattle.zq_merge.proofs.SumLists.{AreFirstTo}
use Rattle.zq_merge.proofs.sums.read_each_sum.Given as goal

abbrev pub invariant-loop-number : goal.invariant-loop-number
invariant-loop-number l = AreFirstTo l.vector l.number l.initial.bytes.now l.bytes.now l.sums.items
