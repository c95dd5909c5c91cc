use Rattle.std.proofs.Common.{ap, ◌∙◌}
use Rattle.std.specs.Prelude.{min, take}
use Rattle.zq_posheap.specs.Members.{scores_of}
use Rattle.zq_posheap.proofs.Firsts.{firsts_begin, one_length}
use Rattle.zq_posheap.proofs.Slices.{take_least}
use Rattle.zq_posheap.proofs.pos_heap.PosHeap.first.Goals as goal

pub returns : goal.returns
returns g c = λ pairs order.
    let scores = scores_of c.args.self.now.held in
    let all = c.in_ok-pairs.pairs.items in
    firsts_begin scores all c.in_ok-firsts.firsts.items c.sort_unstable.new.self.items _ c.in_ok-pairs.ensures c.in_ok-firsts.ensures
    c.sort_unstable.ensures.permutation c.sort_unstable.ensures.sorted pairs order
    ∙ ap (λ n. take (min c.args.count n) pairs) (one_length scores all c.in_ok-pairs.ensures pairs order) ∙ take_least pairs c.args.count
