use Rattle.zq_fields.proofs.Counters.{IsDenseTo}
use Rattle.zq_fields.proofs.dense.read_dense.Given as goal

abbrev pub invariant-loop-number : goal.invariant-loop-number
invariant-loop-number l = IsDenseTo l.whole l.own l.number l.initial.bytes.now l.bytes.now l.vector
