use Rattle.std.proofs.Common.{ap, arith, ◌∙◌}
use Rattle.std.specs.Prelude.{count_by, length, ℤ}
use Rattle.std.proofs.lemmas.Int.{to_z-of_z}
use Rattle.std.specs.Int.{w128}
use Rattle.std.specs.Ordering.{is_lt}
use Rattle.zq_posheap.specs.Order.{scored_cmp}
use Rattle.zq_posheap.proofs.Listed.{count_begins, count_ends}
use Rattle.zq_posheap.specs.Members.{scores_of}
use Rattle.zq_posheap.proofs.pos_heap.PosHeap.count_before.Goals as goal

pub loop-pair-init : goal.loop-pair-init
loop-pair-init g c = record {
  fits = omega (arith, c.iter-pair-items.ensures.fits, ap length c.into_iter-pair-iterator.ensures.into_iter_gives);
  counted = count_begins c.args.self.now.held _ c.iter-pair-items.ensures.lists _ _ c.into_iter-pair-iterator.ensures.into_iter_gives;
}

pub returns : goal.returns
returns g c = λ pairs order. count_ends _ (scores_of c.args.self.now.held) c.loop-pair.count _ c.in-None.ensures.steps.0 c.loop-pair.invariant.counted pairs order
    ∙ ap (λ (s : ℤ). count_by (λ pair. is_lt (scored_cmp pair (s, c.args.member.now))) pairs) (to_z-of_z w128 c.args.score c.ranges.score)
