use Rattle.zq_node.specs.Node.{IsNode, IsSameHome}
use Rattle.zq_store.proofs.writer.Writer.finish.Given as goal

abbrev pub invariant-loop : goal.invariant-loop
invariant-loop g l = IsNode l.node × IsSameHome l.initial.node l.node
