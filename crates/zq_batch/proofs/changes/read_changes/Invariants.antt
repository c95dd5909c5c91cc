use Rattle.zq_batch.proofs.Risen.{AreChangedTo}
use Rattle.zq_batch.proofs.changes.read_changes.Given as goal

abbrev pub invariant-loop-number : goal.invariant-loop-number
invariant-loop-number l = AreChangedTo l.whole l.own l.base.top l.count l._number l.low l.base.known l.initial.bytes.now l.bytes.now l.seen
