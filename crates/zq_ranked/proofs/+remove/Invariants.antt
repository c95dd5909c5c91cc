use Rattle.std.proofs.Common.{◌*◌, ◌+◌}
use Rattle.zq_ranked.proofs.+remove.Given as goal

abbrev pub decreases-child::Child::remove : goal.decreases-child::Child::remove
decreases-child::Child::remove l = 3 * l.self.now.node.1 + 1

abbrev pub decreases-fork::Fork::remove : goal.decreases-fork::Fork::remove
decreases-fork::Fork::remove l = 3 * l.self.now.level + 2

abbrev pub decreases-node::Node::remove : goal.decreases-node::Node::remove
decreases-node::Node::remove l = 3 * l.self.now.1
