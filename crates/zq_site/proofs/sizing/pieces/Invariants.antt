use Rattle.zq_node.specs.Node.{IsNode, IsSameHome}
use Rattle.zq_site.proofs.sizing.pieces.Given as goal

abbrev pub invariant-loop-piece : goal.invariant-loop-piece
invariant-loop-piece g l = IsNode l.node × IsSameHome l.initial.node l.node
