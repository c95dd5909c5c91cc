use Rattle.std.proofs.Common.{◌*◌, ◌+◌}
use Rattle.zq_ranked.proofs.+rank.Given as goal

abbrev pub decreases-fork::Fork::rank : goal.decreases-fork::Fork::rank
decreases-fork::Fork::rank l = 2 * l.self.now.level + 1

abbrev pub decreases-node::Node::rank : goal.decreases-node::Node::rank
decreases-node::Node::rank l = 2 * l.self.now.1
