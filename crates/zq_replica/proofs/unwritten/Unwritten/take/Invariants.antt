use Rattle.std.proofs.Common.{length, vec_capacity, ◌++◌, ◌≡◌, ◌≤◌}
use Rattle.zq_replica.proofs.unwritten.Unwritten.take.Given as goal

abbrev pub invariant-loop-number : goal.invariant-loop-number
invariant-loop-number l =
    (l.fn.self.ops ≡ l.taken.items ++ l.self-inside.ops.items)
    × (length l.taken.items ≡ l._number)
    × (vec_capacity l.taken ≡ l.count)
    × (l._number ≤ l.count)
    × (l.self-inside.has_jumped ≡ l.fn.self.has_jumped)
