-- The memory of a site, and how its heaps get their books one after the other.

use Rattle.std.specs.Prelude.{List, Option, Some, length, slice_get, slice_set, vec_capacity, ℕ, ◌+◌, ◌<◌, ◌≡◌, ◌≤◌}
use Rattle.zq_dots.specs.Rule.{rule_of}
use Rattle.zq_dots.specs.declared.rule.Rule.{Rule}
use Rattle.zq_model.specs.Books.{Book}
use Rattle.zq_spread.specs.Passes.{IsCountOf, IsSeatOf, seen_at, steps_at}
use Rattle.zq_spread.specs.declared.site_builder.SiteBuilder.{SiteBuilder}
use Rattle.zq_spread.specs.declared.locked_heap.LockedHeap.{LockedHeap}
use Rattle.zq_spread.specs.declared.pass.Pass.{Pass}
use Rattle.zq_spread.specs.declared.heap_slot.HeapSlot.{HeapSlot}
use Rattle.zq_tally.specs.Words as tally
use Rattle.zq_tally.specs.declared.count.Count.{Count}
use Rattle.zq_tally.specs.declared.tally.Tally.{Tally}
use Rattle.zq_tally.specs.Limits.{ALL_PARTS}
use Rattle.zq_ticketlock.specs.Seats.{id_of, lock_of, seen}
use Rattle.zq_ticketlock.specs.declared.lock.TicketLock.{TicketLock}
use Rattle.zq_ticketlock.specs.declared.seat.Seat.{Seat}

-- the pass has places for a seat and a count in each of so many heaps, and has made no call
pub record HasPlaces (heaps : ℕ) (pass : Pass) : Type 0 where
  pub seats : length pass.seats.items ≡ heaps
  pub counts : length pass.counts.items ≡ heaps
  pub stamp : pass.stamp ≡ 0

-- the pass was given a new count of this table in a heap
pub record IsCounted (tally_of : Tally) (heap : ℕ) (before after : Pass) : Type 0 where
  pub seats : after.seats ≡ before.seats
  pub stamp : after.stamp ≡ before.stamp
  pub count : Count
  pub counts : after.counts.items ≡ slice_set before.counts.items heap (Some count)
  pub table : tally.count_table count ≡ tally.id_of tally_of
  pub none : tally.steps_of count ≡ 0

-- the pass was given a seat at this lock in a heap, which has seen this value
pub record IsSeated (lock : TicketLock LockedHeap) (value : Option LockedHeap) (heap : ℕ)
    (before after : Pass) : Type 0 where
  pub counts : after.counts ≡ before.counts
  pub stamp : after.stamp ≡ before.stamp
  pub seat : Seat LockedHeap
  pub seats : after.seats.items ≡ slice_set before.seats.items heap (Some seat)
  pub lock_is : lock_of seat ≡ id_of lock
  pub seen_is : seen seat ≡ value

-- the slot is that of this heap, over this book, for so many passes
pub record IsSlotOver (heaps n : ℕ) (rule : Rule) (h : ℕ) (book : Book) (slot : HeapSlot) : Type 0
  where
    pub heap_is : slot.heap ≡ h
    pub heaps_are : slot.heaps ≡ heaps
    pub rule_is : slot.rule ≡ rule
    pub opening : slot.opening ≡ book.count
    pub spare : n + slot.spare ≡ ALL_PARTS

-- the pass has a seat in the slot, which has seen the book, and a count, which has no steps
pub record IsNewIn (slot : HeapSlot) (h : ℕ) (book : Book) (pass : Pass) : Type 0 where
  pub seat : IsSeatOf slot (slice_get pass.seats.items h)
  pub count : IsCountOf slot (slice_get pass.counts.items h)
  pub seen : (kept : LockedHeap) × (seen_at pass h ≡ Some kept) × (kept.book ≡ book)
  pub none : steps_at pass h ≡ 0

-- the first heaps have these books, in slots in which each pass is new
pub record AreSettled (heaps n : ℕ) (rule : Rule) (books : List Book) (slots : List HeapSlot)
    (passes : List Pass) : Type 0 where
  pub number : length slots ≡ length books
  pub passes_are : length passes ≡ n
  pub places : (i : ℕ) (pass : Pass) → slice_get passes i ≡ Some pass → HasPlaces heaps pass
  pub slot : (h : ℕ) (slot : HeapSlot) (book : Book) → slice_get slots h ≡ Some slot →
      slice_get books h ≡ Some book → IsSlotOver heaps n rule h book slot
  pub new : (i h : ℕ) (pass : Pass) (slot : HeapSlot) (book : Book) →
      slice_get passes i ≡ Some pass → slice_get slots h ≡ Some slot →
      slice_get books h ≡ Some book → IsNewIn slot h book pass

-- what is left is for the other heaps
pub record IsGround (heaps n : ℕ) (rule : Rule) (books : List Book) (builder : SiteBuilder) : Type 0
  where
    pub empty_slots : length builder.empty_slots.items + length builder.slots.items ≡ heaps
    pub room : heaps ≤ vec_capacity builder.slots
    pub heaps_are : builder.heaps ≡ heaps
    pub rule_is : builder.rule ≡ rule
    pub settled : AreSettled heaps n rule books builder.slots.items builder.passes.items

-- the next heap may get its book
pub record IsReady (builder : SiteBuilder) : Type 0 where
  pub empty_slot : 0 < length builder.empty_slots.items
  pub heap : length builder.slots.items < builder.heaps
  pub room : length builder.slots.items < vec_capacity builder.slots
  pub passes : length builder.passes.items ≤ 128
  pub places : (i : ℕ) (pass : Pass) → slice_get builder.passes.items i ≡ Some pass →
      HasPlaces builder.heaps pass

-- the book is the next heap's
pub record IsNextBook (builder : SiteBuilder) (book : Book) : Type 0 where
  pub heap_is : book.heap ≡ length builder.slots.items
  pub heaps_are : book.heaps ≡ builder.heaps
  pub rule_is : book.rule ≡ rule_of builder.rule
