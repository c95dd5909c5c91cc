-- A heap of a site: what stays of it, and what a call may leave there.

use Rattle.std.specs.Prelude.{List, Option, [], max, ℕ, ◌+◌, ◌<◌, ◌≡◌}
use Rattle.zq_dots.specs.Rule.{rule_of}
use Rattle.zq_model.specs.Books.{Step}
use Rattle.zq_model.specs.Reach.{IsWorked}
use Rattle.zq_spread.specs.LockedHeaps.{Follows, IsAtHome}
use Rattle.zq_spread.specs.declared.locked_heap.LockedHeap.{LockedHeap}
use Rattle.zq_spread.specs.declared.heap_slot.HeapSlot.{HeapSlot}
use Rattle.zq_tally.specs.Words.{id_of, kept_of, passes_of, total_of, total_table}
use Rattle.zq_ticketlock.specs.Steps.{FollowsSeen}

-- the value is one of this heap: its book, its rule, its table, and the parts kept with the total;
-- the count is what it began with and the total
pub record IsOf (slot : HeapSlot) (kept : LockedHeap) : Type 0 where
  pub heap : kept.book.heap ≡ slot.heap
  pub heaps : kept.book.heaps ≡ slot.heaps
  pub rule : kept.book.rule ≡ rule_of slot.rule
  pub table : total_table kept.total ≡ id_of slot.tally
  pub parts : kept_of kept.total ≡ slot.spare
  pub count : kept.book.count ≡ slot.opening + total_of kept.total

-- a call of this stamp has begun on the value found: it follows what the seat had seen, the stamp
-- is the one after the value's and the pass's, and nothing is done but for a cut and the stamp
pub record IsBegun (slot : HeapSlot) (before : Option LockedHeap) (floor stamp : ℕ)
    (now found : LockedHeap) : Type 0 where
  pub follows : FollowsSeen Follows found before
  pub home : IsAtHome found
  pub of : IsOf slot found
  pub next : stamp ≡ max floor found.book.stamp + 1
  pub worked : IsWorked now.book found.book stamp []
  pub total : now.total ≡ found.total

-- the value is the one found after the own work of one call, whose steps are not counted yet
pub record IsWorkedOn (slot : HeapSlot) (now found : LockedHeap) : Type 0 where
  pub home : IsAtHome found
  pub of : IsOf slot found
  pub stamp : ℕ
  pub later : found.book.stamp < stamp
  pub steps : List Step
  pub worked : IsWorked now.book found.book stamp steps
  pub total : now.total ≡ found.total

-- the value is the old one with the steps counted
pub record IsCountedUp (slot : HeapSlot) (now old : LockedHeap) : Type 0 where
  pub book : now.book ≡ old.book
  pub count : slot.opening + total_of now.total ≡ old.book.count
  pub table : total_table now.total ≡ total_table old.total
  pub parts : kept_of now.total ≡ kept_of old.total
  pub passes : passes_of now.total ≡ passes_of old.total
