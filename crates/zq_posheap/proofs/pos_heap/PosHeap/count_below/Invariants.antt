use Rattle.std.specs.FinMap.{entries}
use Rattle.std.specs.Ordering.{int_cmp, is_le, is_lt}
use Rattle.std.specs.Prelude.{count_by, if◌then◌else◌, length, map, ◌+◌, ◌<◌, ◌^◌, ◌≡◌}
use Rattle.zq_posheap.specs.Listing.{scored_of}
use Rattle.zq_posheap.specs.Members.{scores_of}
use Rattle.zq_posheap.proofs.pos_heap.PosHeap.count_below.Given as goal

abbrev pub invariant-loop-pair : goal.invariant-loop-pair
invariant-loop-pair g l = record {
  fits : l.count + length l.pair-iterator < 2 ^ 63;
  counted : l.count + count_by (λ pair. if l.fn.or_equal then is_le (int_cmp pair.0 l.fn.score) else is_lt (int_cmp pair.0 l.fn.score)) (map scored_of l.pair-iterator)
      ≡ count_by (λ e. if l.fn.or_equal then is_le (int_cmp e.1 l.fn.score) else is_lt (int_cmp e.1 l.fn.score)) (entries (scores_of l.self.held));
}
