use Rattle.zq_fields.proofs.Entries.{IsSparseTo}
use Rattle.zq_fields.proofs.sparse.read_entries.Given as goal

abbrev pub invariant-loop-number : goal.invariant-loop-number
invariant-loop-number l = IsSparseTo l.whole l.own l.count l._number l.low l.initial.bytes.now l.bytes.now l.vector
