use Rattle.std.proofs.Common.{[], length, ℕ, ◌≡◌, ◌≤◌}
use Rattle.zq_node.specs.Node.{IsNode, IsSameHome, parked_of, pass_of}
use Rattle.zq_node.specs.Work.{HasWorked}
use Rattle.zq_node.proofs.node.Node.settle.Given as goal
use Rattle.zq_spread.specs.Passes.{seen_at}

abbrev pub invariant-loop : goal.invariant-loop
invariant-loop g l =
    IsNode l.self × IsSameHome l.fn.self l.self × HasWorked [] l.fn.self l.self
    × ((k : ℕ) → (k ≡ l.heap → ⊥) → seen_at (pass_of l.self) k ≡ seen_at (pass_of l.fn.self) k)
    × (length (parked_of l.self) ≤ length (parked_of l.fn.self))

abbrev pub decreases-loop : goal.decreases-loop
decreases-loop g l = length (parked_of l.self)
