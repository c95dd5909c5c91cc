-- A heap that a pass holds.

use Rattle.std.specs.Prelude.{Some, [], slice_get, ℕ, ◌<◌, ◌∷◌, ◌≡◌}
use Rattle.zq_model.specs.Books.{Book}
use Rattle.zq_spread.specs.Calls.{heaps_of}
use Rattle.zq_spread.specs.LockedHeaps.{Follows, IsAtHome}
use Rattle.zq_spread.specs.Passes.{IsPassBut, seen_at, steps_at}
use Rattle.zq_spread.specs.HeapSlots.{IsOf}
use Rattle.zq_spread.specs.Turns.{HasTurn, turns_at}
use Rattle.zq_spread.specs.declared.holdings.Holding.{Holding}
use Rattle.zq_spread.specs.declared.locked_heap.LockedHeap.{LockedHeap}
use Rattle.zq_spread.specs.declared.pass.Pass.{Pass}
use Rattle.zq_spread.specs.declared.heap_slot.HeapSlot.{HeapSlot}
use Rattle.zq_spread.specs.declared.site.Site.{Site}
use Rattle.zq_ticketlock.specs.Seats.{given, held_lock, held_logged, id_of, value_of}
use Rattle.zq_ticketlock.specs.Steps.{FollowsSeen}

abbrev pub kept_held : Holding → LockedHeap
kept_held holding = value_of holding.held

-- the book of the heap that is held
abbrev pub book_held : Holding → Book
book_held holding = (kept_held holding).book

-- the heap is one of the site's, held by one of its passes, and its value is the one that was given
pub record IsHoldingOf (site : Site) (holding : Holding) : Type 0 where
  pub heap : holding.heap < heaps_of site
  pub pass : IsPassBut site (holding.heap ∷ []) holding.pass
  pub lock : (slot : HeapSlot) → slice_get site.slots.items holding.heap ≡ Some slot →
      held_lock holding.held ≡ id_of slot.lock
  pub of : (slot : HeapSlot) → slice_get site.slots.items holding.heap ≡ Some slot →
      IsOf slot (kept_held holding)
  pub home : IsAtHome (kept_held holding)
  pub given : given holding.held ≡ Some (kept_held holding)

-- the pass holds this heap: what it found there follows what it had seen, and all else of the pass
-- is as it was
pub record IsHeldBy (before : Pass) (h : ℕ) (holding : Holding) : Type 0 where
  pub heap : holding.heap ≡ h
  pub follows : FollowsSeen Follows (kept_held holding) (seen_at before h)
  pub others : (k : ℕ) → (k ≡ h → ⊥) → seen_at holding.pass k ≡ seen_at before k
  pub steps : (k : ℕ) → steps_at holding.pass k ≡ steps_at before k
  pub stamp : holding.pass.stamp ≡ before.stamp
  pub turns : held_logged holding.held ≡ turns_at before h
  pub rest : (k : ℕ) → (k ≡ h → ⊥) → turns_at holding.pass k ≡ turns_at before k

-- the pass is back, and has seen the book that was held, which was let go as it was given; all else
-- of it is as it was
pub record IsBack (holding : Holding) (after : Pass) : Type 0 where
  pub seen : seen_at after holding.heap ≡ Some (kept_held holding)
  pub others : (k : ℕ) → (k ≡ holding.heap → ⊥) → seen_at after k ≡ seen_at holding.pass k
  pub steps : (k : ℕ) → steps_at after k ≡ steps_at holding.pass k
  pub stamp : after.stamp ≡ holding.pass.stamp
  pub turn : HasTurn (kept_held holding) (kept_held holding) (turns_at after holding.heap)
      (held_logged holding.held)
  pub rest : (k : ℕ) → (k ≡ holding.heap → ⊥) → turns_at after k ≡ turns_at holding.pass k
