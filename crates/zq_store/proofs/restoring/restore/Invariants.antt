use Rattle.zq_node.specs.Node.{IsNode, IsSameHome}
use Rattle.zq_store.proofs.restoring.restore.Given as goal

abbrev pub invariant-loop-shard : goal.invariant-loop-shard
invariant-loop-shard g l = IsNode l.node × IsSameHome l.initial.node l.node
