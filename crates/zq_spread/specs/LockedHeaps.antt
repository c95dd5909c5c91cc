-- What the lock of a heap keeps, and how its values follow one another.

use Rattle.std.proofs.Common.{arith}
use Rattle.std.specs.Prelude.{[], ◌++◌, ◌≡◌}
use Rattle.zq_model.proofs.Reached.{reached_through, touched_reaches}
use Rattle.zq_model.specs.Reach.{Reached}
use Rattle.zq_spread.specs.declared.locked_heap.LockedHeap.{LockedHeap}
use Rattle.zq_tally.specs.Follows as total
use Rattle.zq_tally.specs.Words.{passes_of}

-- no pass is joined in the total while nobody holds the heap
abbrev pub IsAtHome : LockedHeap → Type 0
IsAtHome kept = passes_of kept.total ≡ []

-- the later book was reached from the earlier one, and the total has grown by as much as the count
abbrev pub Follows : LockedHeap → LockedHeap → Type 0
Follows later earlier = Reached later.book earlier.book
    × total.FollowsTotal later.total later.book.count earlier.total earlier.book.count

pub follows_itself : (x : LockedHeap) → Follows x x
follows_itself x = (([], touched_reaches x.book x.book.stamp (omega arith)), total.follows_itself x.total x.book.count)

pub follows_further : (x y z : LockedHeap) → Follows x y → Follows y z → Follows x z
follows_further x y z later earlier = (
  (earlier.0.0 ++ later.0.0, reached_through x.book y.book z.book earlier.0.0 later.0.0 later.0.1 earlier.0.1),
  total.follows_further x.total y.total z.total x.book.count y.book.count z.book.count later.1 earlier.1,
)
