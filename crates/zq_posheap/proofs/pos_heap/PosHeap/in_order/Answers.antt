use Rattle.zq_posheap.proofs.Listed.{in_order}
use Rattle.zq_posheap.specs.Members.{scores_of}
use Rattle.zq_posheap.proofs.pos_heap.PosHeap.in_order.Goals as goal

pub returns : goal.returns
returns g c = in_order (scores_of c.args.self.now.held) c.in_ok-pairs.pairs.items c.sort_unstable.new.self.items c.in_ok-pairs.ensures c.sort_unstable.ensures.permutation c.sort_unstable.ensures.sorted
