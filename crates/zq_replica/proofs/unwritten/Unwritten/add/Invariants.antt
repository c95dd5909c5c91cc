use Rattle.std.proofs.Common.{false, ◌≡◌}
use Rattle.zq_replica.specs.Unwritten.{grown}
use Rattle.zq_replica.proofs.unwritten.Unwritten.add.Given as goal

abbrev pub invariant-loop-op : goal.invariant-loop-op
invariant-loop-op l =
    (goal.iterator-loop-op).can_next l.op-iterator
    × (goal.iterator-loop-op).is_finite l.op-iterator
    × (l.self ≡ grown l.yielded l.initial.self)
    × (l.initial.self.has_jumped ≡ false)
