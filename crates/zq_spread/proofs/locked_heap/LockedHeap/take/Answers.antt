use Rattle.zq_spread.proofs.OneHeap.{taken_by}
use Rattle.zq_spread.proofs.locked_heap.LockedHeap.take.Goals as goal

pub returns-clause-worked : goal.returns-clause-worked
returns-clause-worked c = λ a begun.
    let e = c.take.ensures in
    taken_by c.args.self.now.book c.take.new.self a c.args.stamp c.args.op.now c.take.result c.requires.of_heap e.wrong_heap e.judged e.worn e.no_memory e.worked e.refused begun
