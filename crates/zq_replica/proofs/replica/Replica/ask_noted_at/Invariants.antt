use Rattle.zq_node.specs.Node.{IsNode}
use Rattle.zq_replica.specs.Fence.{IsSteady}
use Rattle.zq_replica.specs.Nodes.{Shows}
use Rattle.zq_replica.proofs.replica.Replica.ask_noted_at.Given as goal

abbrev pub invariant-loop-heap : goal.invariant-loop-heap
invariant-loop-heap g l = record {
  node : IsNode l.node;
  shows : Shows l.fn.node l.node;
  steady : IsSteady l.fn.self l.self;
}
