-- The turns of a pass's seat in a heap: what each hold was given, and what it put home.

use Rattle.std.specs.Prelude.{List, Option, Some, [], slice_get, ℕ, ◌++◌, ◌∷◌, ◌≡◌}
use Rattle.zq_spread.specs.declared.locked_heap.LockedHeap.{LockedHeap}
use Rattle.zq_spread.specs.declared.pass.Pass.{Pass}
use Rattle.zq_ticketlock.specs.Seats.{entry, logged}
use Rattle.zq_ticketlock.specs.declared.seat.Seat.{Seat}
use Rattle.zq_ticketlock.specs.declared.turns.Entry.{Entry}

abbrev pub turns_in : Option (Option (Seat LockedHeap)) → List (Entry LockedHeap)
turns_in (Some (Some seat)) = logged seat
turns_in other = []

-- the holds of a heap by the pass's seat, and by those with which it was joined, the latest first,
-- each by its ticket
abbrev pub turns_at : Pass → ℕ → List (Entry LockedHeap)
turns_at pass h = turns_in (slice_get pass.seats.items h)

-- there is one hold more, which was given the one value and put the other home
abbrev pub HasTurn : LockedHeap → LockedHeap → List (Entry LockedHeap) → List (Entry LockedHeap) →
    Type 0
HasTurn given home later before = (ticket : ℕ) × (later ≡ entry ticket given home ∷ before)

-- the hold put the book home that it was given, with its stamp, its count and all its records
abbrev pub IsUnchanged : Entry LockedHeap → Type 0
IsUnchanged e = e.turn.home.book ≡ e.turn.given.book

abbrev pub AreUnchanged : List (Entry LockedHeap) → Type 0
AreUnchanged [] = Unit {0}
AreUnchanged (e ∷ holds) = IsUnchanged e × AreUnchanged holds

-- the heap was let go as it was given: each of the holds since, if any, put the book home that it
-- was given
pub record IsLeftAsGiven (later before : List (Entry LockedHeap)) : Type 0 where
  pub holds : List (Entry LockedHeap)
  pub unchanged : AreUnchanged holds
  pub turns : later ≡ holds ++ before

-- the latest hold was given the one value and put the other home; those before it, if any, let the
-- heap go as it was given
pub record IsTurnAfter (given home : LockedHeap) (later before : List (Entry LockedHeap)) : Type 0
  where
    pub passed : List (Entry LockedHeap)
    pub left : IsLeftAsGiven passed before
    pub turn : HasTurn given home later passed

-- the pass has held the heap once more
abbrev pub HasHeldOnce : Pass → Pass → ℕ → Type 0
HasHeldOnce before after h = (last : Entry LockedHeap)
    × (turns_at after h ≡ last ∷ turns_at before h)
