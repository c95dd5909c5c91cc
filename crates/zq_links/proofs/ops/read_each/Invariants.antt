use Rattle.zq_links.proofs.Repeated.{AreReadTo}
use Rattle.zq_links.proofs.ops.read_each.Given as goal

abbrev pub invariant-loop-number : goal.invariant-loop-number
invariant-loop-number l = AreReadTo l.number l.initial.bytes.now l.bytes.now l.ops.items
