use Rattle.std.proofs.Common.{take}
use Rattle.zq_node.specs.Node.{IsNode, IsSameHome}
use Rattle.zq_node.specs.Work.{AreTurns}
use Rattle.zq_node.proofs.node.Node.take_each.Given as goal

abbrev pub invariant-loop-op : goal.invariant-loop-op
invariant-loop-op g l = IsNode l.self × IsSameHome l.fn.self l.self × AreTurns (take l.op-index l.ops) l.fn.self l.self
