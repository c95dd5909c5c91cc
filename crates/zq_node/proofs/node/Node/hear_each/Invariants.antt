use Rattle.std.proofs.Common.{drop, length, take, ◌-◌, ◌≡◌, ◌≤◌}
use Rattle.zq_node.specs.Batches.{HasHeardSome}
use Rattle.zq_node.specs.Node.{IsNode, IsSameHome}
use Rattle.zq_node.proofs.node.Node.hear_each.Given as goal

abbrev pub invariant-loop-at : goal.invariant-loop-at
invariant-loop-at g l =
    IsNode l.self × IsSameHome l.fn.self l.self × (l.at ≤ length l.initial.ops) × (drop l.at l.ops ≡ drop l.at l.initial.ops)
    × HasHeardSome l.initial.ops (take l.at l.initial.ops) l.fn.self l.self

abbrev pub decreases-loop-at : goal.decreases-loop-at
decreases-loop-at g l = length l.initial.ops - l.at
