use Rattle.std.specs.List.Sorted.{IsStrictlySortedBy}
use Rattle.std.specs.Prelude.{map, ◌++◌}
use Rattle.zq_posheap.specs.Listing.{IsListing, scored_of}
use Rattle.zq_posheap.specs.Members.{scores_of}
use Rattle.zq_posheap.specs.Order.{scored_cmp}
use Rattle.zq_queue.proofs.index.index_of.Given as goal

abbrev pub invariant-loop-score : goal.invariant-loop-score
invariant-loop-score l = record {
  lists : IsListing (scores_of l.members.held) (l.pairs ++ map scored_of l.score-iterator);
  rises : IsStrictlySortedBy scored_cmp l.pairs;
}
