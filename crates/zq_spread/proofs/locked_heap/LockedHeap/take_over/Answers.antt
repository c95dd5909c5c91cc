use Rattle.zq_spread.proofs.OneHeap.{taken_over_by}
use Rattle.zq_spread.proofs.locked_heap.LockedHeap.take_over.Goals as goal

pub returns-clause-worked : goal.returns-clause-worked
returns-clause-worked c = λ a begun.
    let e = c.take_over.ensures in
    taken_over_by c.args.self.now.book c.take_over.new.self a c.args.stamp c.args.other.now c.take_over.result c.requires.same_heap c.requires.same_rule e.worn e.wrong_heap e.wrong_rule e.lacks e.covers e.worked e.refused begun
