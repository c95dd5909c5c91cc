use Rattle.zq_node.specs.Node.{IsNode, IsSameHome}
use Rattle.zq_store.proofs.writer.Writer.end_own.Given as goal

abbrev pub invariant-loop-heap : goal.invariant-loop-heap
invariant-loop-heap g l = IsNode l.node × IsSameHome l.initial.node l.node
