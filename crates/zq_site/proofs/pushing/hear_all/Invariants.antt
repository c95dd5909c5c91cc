use Rattle.zq_node.specs.Node.{IsNode, IsSameHome}
use Rattle.zq_site.proofs.pushing.hear_all.Given as goal

abbrev pub invariant-loop-event : goal.invariant-loop-event
invariant-loop-event g l = IsNode l.node × IsSameHome l.initial.node l.node
