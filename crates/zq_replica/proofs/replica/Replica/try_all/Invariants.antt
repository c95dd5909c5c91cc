use Rattle.std.proofs.Common.{ℕ}
use Rattle.zq_node.specs.Node.{IsNode, IsSameHome}
use Rattle.zq_replica.specs.Gathered.{AreTries}
use Rattle.zq_replica.proofs.replica.Replica.try_all.Given as goal

abbrev pub invariant-loop-try : goal.invariant-loop-try
invariant-loop-try g l = record {
  node : IsNode l.node;
  home : IsSameHome l.fn.node l.node;
  tries : (times : ℕ) × AreTries times l.fn.shard l.shard l.fn.node l.node;
}
