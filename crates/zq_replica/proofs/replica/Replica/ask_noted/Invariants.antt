use Rattle.zq_node.specs.Node.{IsNode}
use Rattle.zq_replica.specs.Fence.{IsSteady}
use Rattle.zq_replica.specs.Nodes.{Shows}
use Rattle.zq_replica.proofs.replica.Replica.ask_noted.Given as goal

abbrev pub invariant-loop-place : goal.invariant-loop-place
invariant-loop-place g l = record {
  node : IsNode l.node;
  shows : Shows l.fn.node l.node;
  steady : IsSteady l.fn.self l.self;
}
