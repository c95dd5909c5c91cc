use Rattle.std.proofs.Common.{drop, take, ◌≡◌}
use Rattle.zq_spread.proofs.InTurn.{IsUnderWay}
use Rattle.zq_spread.proofs.locked_heap.LockedHeap.take_all.Given as goal

abbrev pub invariant-loop-op : goal.invariant-loop-op
invariant-loop-op l =
    (l.self.total ≡ l.fn.self.total) × (l.taken ≡ l.op-index)
    × IsUnderWay l.fn.stamp (take l.op-index l.initial.ops) l.fn.self.book l.self.book
    × (drop l.op-index l.ops ≡ drop l.op-index l.initial.ops)
