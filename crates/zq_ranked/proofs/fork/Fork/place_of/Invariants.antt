use Rattle.std.proofs.Common.{drop, length, take, ◌-◌, ◌<◌, ◌≤◌}
use Rattle.zq_ranked.specs.Key.{pair_of_key}
use Rattle.zq_ranked.specs.Order.{AreAfter, AreBefore}
use Rattle.zq_ranked.specs.Shape.{joined}
use Rattle.zq_ranked.proofs.fork.Fork.place_of.Given as goal

abbrev pub invariant-loop-low : goal.invariant-loop-low
invariant-loop-low l = (l.low < l.high) × (l.high ≤ length l.self.children.items) × AreBefore (pair_of_key l.key) (joined (take l.low l.self.children.items)) × AreAfter (pair_of_key l.key) (joined (drop l.high l.self.children.items))

abbrev pub decreases-loop-low : goal.decreases-loop-low
decreases-loop-low l = l.high - l.low
