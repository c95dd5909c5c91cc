-- What two passes have seen of a heap after they met.

use Rattle.std.specs.Prelude.{List, Option, Some, ◌++◌, ◌≡◌}
use Rattle.zq_spread.specs.LockedHeaps.{Follows}
use Rattle.zq_spread.specs.Turns.{IsLeftAsGiven}
use Rattle.zq_spread.specs.declared.locked_heap.LockedHeap.{LockedHeap}
use Rattle.zq_ticketlock.specs.Steps.{FollowsSeen}
use Rattle.zq_ticketlock.specs.declared.turns.Entry.{Entry}

-- the first has seen what follows all that either had; the second has seen what follows what it
-- had, and what the first has seen follows it
abbrev pub HaveMet : Option LockedHeap → Option LockedHeap → Option LockedHeap → Option LockedHeap →
    Type 0
HaveMet first second first_now second_now =
    (x : LockedHeap) × (y : LockedHeap) × (first_now ≡ Some x) × (second_now ≡ Some y)
    × FollowsSeen Follows x first × FollowsSeen Follows x second × FollowsSeen Follows y second
    × Follows x y

-- both have seen one value, which follows all that either had
abbrev pub HaveParted : Option LockedHeap → Option LockedHeap → Option LockedHeap →
    Option LockedHeap → Type 0
HaveParted first second first_now second_now =
    (x : LockedHeap) × (first_now ≡ Some x) × (second_now ≡ Some x) × FollowsSeen Follows x first
    × FollowsSeen Follows x second

-- both have the holds of both, and the heap was let go as it was given
abbrev pub HaveLeft : List (Entry LockedHeap) → List (Entry LockedHeap) → List (Entry LockedHeap) →
    List (Entry LockedHeap) → Type 0
HaveLeft first second first_now second_now = IsLeftAsGiven first_now (first ++ second)
    × IsLeftAsGiven second_now (first ++ second)
