use Rattle.zq_entries.proofs.Rounds.{AreReadTo}
use Rattle.zq_entries.proofs.round.read_batches.Given as goal

abbrev pub invariant-loop-number : goal.invariant-loop-number
invariant-loop-number l = AreReadTo l.whole l._number l.initial.bytes.now l.bytes.now l.batches.items
