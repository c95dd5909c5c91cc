use Rattle.std.proofs.Common.{option_copied}
use Rattle.zq_replica.proofs.Taken.{AreTaken}
use Rattle.zq_replica.proofs.unwritten.Unwritten.count_next.Given as goal

abbrev pub invariant-loop-number : goal.invariant-loop-number
invariant-loop-number l = AreTaken (option_copied l.within) l.self.ops l.number l.names
