use Rattle.zq_spread.proofs.OneHeap.{merged_by}
use Rattle.zq_spread.proofs.locked_heap.LockedHeap.merge.Goals as goal

pub returns-clause-worked : goal.returns-clause-worked
returns-clause-worked c = λ a begun.
    let e = c.merge.ensures in
    merged_by c.args.self.now.book c.merge.new.self a c.args.stamp c.args.other.now c.merge.result c.requires.same_heap c.requires.same_rule e.worn e.wrong_heap e.wrong_rule e.worked e.refused begun
