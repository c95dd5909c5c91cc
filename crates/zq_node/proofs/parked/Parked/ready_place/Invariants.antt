use Rattle.std.proofs.Common.{ℕ, ◌<◌}
use Rattle.zq_node.specs.Parked.{IsSiteEarly}
use Rattle.zq_node.proofs.parked.Parked.ready_place.Given as goal

abbrev pub invariant-loop-number : goal.invariant-loop-number
invariant-loop-number l = (site : ℕ) → site < l.number → IsSiteEarly l.self.entries l.heap l.vector site
