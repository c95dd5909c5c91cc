use Rattle.zq_node.specs.Node.{IsNode, IsSameHome}
use Rattle.zq_site.proofs.walking.steps.Given as goal

abbrev pub invariant-loop-step : goal.invariant-loop-step
invariant-loop-step g l = IsNode l.node × IsSameHome l.initial.node l.node
