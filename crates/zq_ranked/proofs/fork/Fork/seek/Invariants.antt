use Rattle.std.proofs.Common.{length, take, ◌+◌, ◌-◌, ◌≡◌, ◌≤◌}
use Rattle.zq_ranked.specs.Shape.{joined}
use Rattle.zq_ranked.proofs.fork.Fork.seek.Given as goal

abbrev pub invariant-loop-index : goal.invariant-loop-index
invariant-loop-index l = (l.index ≤ length l.self.children.items) × (l.place ≡ length (joined (take l.index l.self.children.items)) + l.rest)

abbrev pub decreases-loop-index : goal.decreases-loop-index
decreases-loop-index l = length l.self.children.items - l.index
