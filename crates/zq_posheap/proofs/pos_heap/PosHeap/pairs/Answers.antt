use Rattle.std.proofs.Common.{refl}
use Rattle.zq_posheap.specs.Members.{scores_of}
use Rattle.zq_posheap.proofs.Listed.{one_more, scored_listing}
use Rattle.zq_posheap.proofs.pos_heap.PosHeap.pairs.Goals as goal

pub loop-pair-init : goal.loop-pair-init
loop-pair-init g c =
    rw (c.in_ok-pairs.ensures.items, c.into_iter-pair-iterator.ensures.into_iter_gives) (scored_listing c.args.self.now.held _ c.iter-pair-items.ensures.lists)

pub loop-pair-preserved : goal.loop-pair-preserved
loop-pair-preserved g c =
    one_more (scores_of c.args.self.now.held) c.loop-pair.pairs.items c.push.new.self.items c.loop-pair.pair-iterator c.next.new.self
    _ c.in-Some.pair c.in-Some.ensures.steps c.in_ok-push.ensures.items refl c.loop-pair.invariant
