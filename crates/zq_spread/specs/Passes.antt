-- What a pass has of a site.

use Rattle.std.specs.Prelude.{IfSome, List, None, Option, Some, length, slice_get, ℕ, ◌≡◌, ◌≤◌}
use Rattle.zq_journal.specs.Books.{LAST_STAMP}
use Rattle.zq_model.specs.Sets.{IsIn}
use Rattle.zq_spread.specs.LockedHeaps.{Follows}
use Rattle.zq_spread.specs.HeapSlots.{IsOf}
use Rattle.zq_spread.specs.Turns.{IsLeftAsGiven, turns_at}
use Rattle.zq_spread.specs.declared.locked_heap.LockedHeap.{LockedHeap}
use Rattle.zq_spread.specs.declared.pass.Pass.{Pass}
use Rattle.zq_spread.specs.declared.heap_slot.HeapSlot.{HeapSlot}
use Rattle.zq_spread.specs.declared.site.Site.{Site}
use Rattle.zq_tally.specs.Words as tally
use Rattle.zq_tally.specs.declared.count.Count.{Count}
use Rattle.zq_ticketlock.specs.Seats.{id_of, lock_of, seen}
use Rattle.zq_ticketlock.specs.Steps.{FollowsSeen}
use Rattle.zq_ticketlock.specs.declared.seat.Seat.{Seat}

abbrev pub seen_in : Option (Option (Seat LockedHeap)) → Option LockedHeap
seen_in (Some (Some seat)) = seen seat
seen_in other = None

abbrev pub steps_in : Option (Option Count) → ℕ
steps_in (Some (Some count)) = tally.steps_of count
steps_in other = 0

-- the value that the pass has seen last of a heap
abbrev pub seen_at : Pass → ℕ → Option LockedHeap
seen_at pass h = seen_in (slice_get pass.seats.items h)

-- how many steps the pass has made in a heap
abbrev pub steps_at : Pass → ℕ → ℕ
steps_at pass h = steps_in (slice_get pass.counts.items h)

-- the seat is there, is of this heap's lock, and what it has seen is of this heap
abbrev pub IsSeatOf : HeapSlot → Option (Option (Seat LockedHeap)) → Type 0
IsSeatOf slot (Some (Some seat)) = (lock_of seat ≡ id_of slot.lock) × IfSome (seen seat) (IsOf slot)
IsSeatOf slot other = ⊥

-- the count is there, and is of this heap's table
abbrev pub IsCountOf : HeapSlot → Option (Option Count) → Type 0
IsCountOf slot (Some (Some count)) = tally.count_table count ≡ tally.id_of slot.tally
IsCountOf slot other = ⊥

-- the slot is that of this heap
abbrev pub IsSlotAt : Site → ℕ → HeapSlot → Type 0
IsSlotAt site h slot = (slot.heap ≡ h) × (slot.heaps ≡ length site.slots.items)
    × (slot.rule ≡ site.rule)

-- the pass is one of the site's, and calls work in these heaps, where its seats are out
pub record IsPassBut (site : Site) (out : List ℕ) (pass : Pass) : Type 0 where
  pub seats : length pass.seats.items ≡ length site.slots.items
  pub counts : length pass.counts.items ≡ length site.slots.items
  pub slots : (h : ℕ) (slot : HeapSlot) → slice_get site.slots.items h ≡ Some slot →
      IsSlotAt site h slot
  pub seat : (h : ℕ) (slot : HeapSlot) → (IsIn h out → ⊥) →
      slice_get site.slots.items h ≡ Some slot → IsSeatOf slot (slice_get pass.seats.items h)
  pub count : (h : ℕ) (slot : HeapSlot) → slice_get site.slots.items h ≡ Some slot →
      IsCountOf slot (slice_get pass.counts.items h)
  pub stamp : pass.stamp ≤ LAST_STAMP

-- the pass is one of the site's
pub record IsPassOf (site : Site) (pass : Pass) : Type 0 where
  pub seats : length pass.seats.items ≡ length site.slots.items
  pub counts : length pass.counts.items ≡ length site.slots.items
  pub slots : (h : ℕ) (slot : HeapSlot) → slice_get site.slots.items h ≡ Some slot →
      IsSlotAt site h slot
  pub seat : (h : ℕ) (slot : HeapSlot) → slice_get site.slots.items h ≡ Some slot →
      IsSeatOf slot (slice_get pass.seats.items h)
  pub count : (h : ℕ) (slot : HeapSlot) → slice_get site.slots.items h ≡ Some slot →
      IsCountOf slot (slice_get pass.counts.items h)
  pub stamp : pass.stamp ≤ LAST_STAMP

-- what was seen later follows what was seen before
abbrev pub IsSeenLater : Option LockedHeap → Option LockedHeap → Type 0
IsSeenLater later before = IfSome later (λ x. FollowsSeen Follows x before)

-- a call was refused: the pass has made no step and has its stamp, what it has seen follows what it
-- had, and each heap that it held was let go as it was given
pub record IsStopped (before after : Pass) : Type 0 where
  pub stamp : after.stamp ≡ before.stamp
  pub steps : (h : ℕ) → steps_at after h ≡ steps_at before h
  pub seen : (h : ℕ) → IsSeenLater (seen_at after h) (seen_at before h)
  pub left : (h : ℕ) → IsLeftAsGiven (turns_at after h) (turns_at before h)
