use Rattle.std.specs.FinMap.{entries}
use Rattle.std.specs.Ordering.{is_lt}
use Rattle.std.specs.Prelude.{count_by, length, map, ◌+◌, ◌<◌, ◌^◌, ◌≡◌}
use Rattle.zq_posheap.specs.Listing.{scored_of}
use Rattle.zq_posheap.specs.Members.{scores_of}
use Rattle.zq_posheap.specs.Order.{scored_cmp}
use Rattle.zq_posheap.proofs.pos_heap.PosHeap.count_before.Given as goal

abbrev pub invariant-loop-pair : goal.invariant-loop-pair
invariant-loop-pair g l = record {
  fits : l.count + length l.pair-iterator < 2 ^ 63;
  counted : l.count + count_by (λ pair. is_lt (scored_cmp pair (l.fn.score, l.fn.member))) (map scored_of l.pair-iterator)
      ≡ count_by (λ e. is_lt (scored_cmp (e.1, e.0) (l.fn.score, l.fn.member))) (entries (scores_of l.self.held));
}
