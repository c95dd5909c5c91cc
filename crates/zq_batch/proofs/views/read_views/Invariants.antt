use Rattle.zq_batch.proofs.Batches.{AreReadTo}
use Rattle.zq_batch.proofs.views.read_views.Given as goal

abbrev pub invariant-loop-number : goal.invariant-loop-number
invariant-loop-number l = AreReadTo l.whole l.heap l._number l.initial.bytes.now l.bytes.now l.views.items
