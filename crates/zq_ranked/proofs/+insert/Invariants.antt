use Rattle.std.proofs.Common.{◌*◌, ◌+◌}
use Rattle.zq_ranked.proofs.+insert.Given as goal

abbrev pub decreases-child::Child::insert : goal.decreases-child::Child::insert
decreases-child::Child::insert l = 3 * l.self.now.node.1 + 1

abbrev pub decreases-fork::Fork::insert : goal.decreases-fork::Fork::insert
decreases-fork::Fork::insert l = 3 * l.self.now.level + 2

abbrev pub decreases-node::Node::insert : goal.decreases-node::Node::insert
decreases-node::Node::insert l = 3 * l.self.now.1
