-- All passes of a site together.

use Rattle.std.specs.List.{AllZip}
use Rattle.std.specs.Prelude.{All, List, Option, Some, None, [], length, slice_get, sum_by, ℕ, ◌+◌, ◌∷◌, ◌≡◌, ◌≤◌}
use Rattle.zq_spread.specs.Passes.{IsCountOf, IsPassOf, IsSeenLater, seen_at, steps_at}
use Rattle.zq_spread.specs.Turns.{IsLeftAsGiven, turns_at}
use Rattle.zq_spread.specs.declared.locked_heap.LockedHeap.{LockedHeap}
use Rattle.zq_spread.specs.declared.pass.Pass.{Pass}
use Rattle.zq_spread.specs.declared.heap_slot.HeapSlot.{HeapSlot}
use Rattle.zq_spread.specs.declared.site.Site.{Site}
use Rattle.zq_tally.specs.Limits.{ALL_PARTS}

abbrev pub opening_of : Option HeapSlot → ℕ
opening_of (Some slot) = slot.opening
opening_of None = 0

-- the count that the book of a heap had when the site was made
abbrev pub opening_at : Site → ℕ → ℕ
opening_at site h = opening_of (slice_get site.slots.items h)

-- these are all the passes that the site was made with
pub record AreAllPasses (site : Site) (passes : List Pass) : Type 0 where
  pub some : 1 ≤ length passes
  pub each : All (IsPassOf site) passes
  pub all : (h : ℕ) (slot : HeapSlot) → slice_get site.slots.items h ≡ Some slot →
      length passes + slot.spare ≡ ALL_PARTS

-- the steps of all these passes in a heap
abbrev pub steps_of_all : ℕ → List Pass → ℕ
steps_of_all h passes = sum_by (λ pass. steps_at pass h) passes

-- nothing may have changed but what the pass has seen of this heap, and its turns there
pub record IsSameBut (heap : ℕ) (before after : Pass) : Type 0 where
  pub stamp : after.stamp ≡ before.stamp
  pub steps : (k : ℕ) → steps_at after k ≡ steps_at before k
  pub others : (k : ℕ) → (k ≡ heap → ⊥) → seen_at after k ≡ seen_at before k
  pub turns : (k : ℕ) → (k ≡ heap → ⊥) → turns_at after k ≡ turns_at before k

-- nothing has changed that can be told of the pass
pub record IsSamePass (before after : Pass) : Type 0 where
  pub stamp : after.stamp ≡ before.stamp
  pub steps : (k : ℕ) → steps_at after k ≡ steps_at before k
  pub seen : (k : ℕ) → seen_at after k ≡ seen_at before k
  pub turns : (k : ℕ) → turns_at after k ≡ turns_at before k

-- the first pass may have seen a later value of the heap, which it has let go as it was given, and
-- nothing else has changed
abbrev pub IsSeenByFirst : ℕ → List Pass → List Pass → Type 0
IsSeenByFirst heap [] [] = Unit {0}
IsSeenByFirst heap (x ∷ xs) (y ∷ ys) = IsSameBut heap x y
    × IsSeenLater (seen_at y heap) (seen_at x heap) × AllZip IsSamePass xs ys
    × IsLeftAsGiven (turns_at y heap) (turns_at x heap)
IsSeenByFirst heap before after = ⊥

-- the first pass has seen a book of the heap whose count is that of the opening book and the steps
-- of all these passes
abbrev pub HasSeenAll : Site → ℕ → List Pass → Type 0
HasSeenAll site heap [] = ⊥
HasSeenAll site heap (first ∷ others) =
    (kept : LockedHeap) × (seen_at first heap ≡ Some kept)
    × (kept.book.count ≡ opening_at site heap + steps_of_all heap (first ∷ others))

-- the pass's count in the heap was taken out and put back
pub record IsCountBack (slot : HeapSlot) (heap : ℕ) (before after : Pass) : Type 0 where
  pub seats : after.seats ≡ before.seats
  pub stamp : after.stamp ≡ before.stamp
  pub number : length after.counts.items ≡ length before.counts.items
  pub count : IsCountOf slot (slice_get after.counts.items heap)
  pub steps : (k : ℕ) → steps_at after k ≡ steps_at before k
  pub rest : (k : ℕ) → (k ≡ heap → ⊥) → slice_get after.counts.items k
      ≡ slice_get before.counts.items k
