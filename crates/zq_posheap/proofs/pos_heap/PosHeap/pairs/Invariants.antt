use Rattle.std.specs.Prelude.{map, ◌++◌}
use Rattle.zq_posheap.specs.Listing.{IsListing, lent_pair, scored_of}
use Rattle.zq_posheap.specs.Members.{scores_of}
use Rattle.zq_posheap.proofs.pos_heap.PosHeap.pairs.Given as goal

abbrev pub invariant-loop-pair : goal.invariant-loop-pair
invariant-loop-pair g l = IsListing (scores_of l.self.held) (map lent_pair l.pairs.items ++ map scored_of l.pair-iterator)
