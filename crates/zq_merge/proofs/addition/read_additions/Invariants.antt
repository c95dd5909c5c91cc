use Rattle.zq_merge.proofs.AdditionLists.{AreAddedTo}
use Rattle.zq_merge.proofs.addition.read_additions.Given as goal

abbrev pub invariant-loop-number : goal.invariant-loop-number
invariant-loop-number l = AreAddedTo l.version l.whole l.vector l.count l._number l.low l.initial.bytes.now l.bytes.now l.additions.items
