use Rattle.std.proofs.Common.{ℕ, ◌<◌, ◌≡◌}
use Rattle.zq_node.specs.Node.{IsNode}
use Rattle.zq_replica.specs.Fence.{IsFreeIn}
use Rattle.zq_replica.specs.Nodes.{Shows}
use Rattle.zq_replica.specs.Told.{told_by_piece}
use Rattle.zq_replica.proofs.replica.Replica.fences_by_piece.Given as goal

abbrev pub invariant-loop-heap : goal.invariant-loop-heap
invariant-loop-heap g l = record {
  node : IsNode l.node;
  shows : Shows l.fn.node l.node;
  same : l.self ≡ l.fn.self;
  free : (h : ℕ) → h < l.heap →
      IsFreeIn l.fn.self.own h (told_by_piece l.fn.self.own l.fn.self.heaps h l.piece) l.fn.node l.node;
}
