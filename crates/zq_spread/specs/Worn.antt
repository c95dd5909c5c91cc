-- What a pass knows of a lock whose tickets are used up, or which somebody else has; and why calls
-- are refused.

use Rattle.std.specs.Prelude.{Bool, List, Option, Some, [], false, length, slice_get, ℕ, ◌++◌, ◌<◌, ◌∷◌, ◌≡◌, ◌≤◌, ◌⊎◌}
use Rattle.zq_journal.specs.Books.{LAST_STAMP, state_of}
use Rattle.zq_model.specs.Sets.{IsIn}
use Rattle.zq_shard.specs.Shard.{queue_at}
use Rattle.zq_spread.specs.Passes.{IsStopped, seen_at}
use Rattle.zq_spread.specs.Turns.{turns_at}
use Rattle.zq_spread.specs.declared.faults.HoldFault.{HoldFault}
use Rattle.zq_spread.specs.declared.faults.HoldFault.TheVariants as hold
use Rattle.zq_spread.specs.declared.locked_heap.LockedHeap.{LockedHeap}
use Rattle.zq_spread.specs.declared.pass.Pass.{Pass}
use Rattle.zq_spread.specs.declared.lock_scan.Stop.{Stop}
use Rattle.zq_spread.specs.declared.lock_scan.Stop.TheVariants as stop
use Rattle.zq_ticketlock.specs.Limits.{last_ticket}
use Rattle.zq_ticketlock.specs.Seats.{entry, reached, served}
use Rattle.zq_ticketlock.specs.declared.errors.TryFault.{TryFault}
use Rattle.zq_ticketlock.specs.declared.errors.TryFault.TheVariants as try
use Rattle.zq_ticketlock.specs.declared.seat.Seat.{Seat}
use Rattle.zq_ticketlock.specs.declared.turns.Entry.{Entry}

abbrev pub reached_in : Option (Option (Seat LockedHeap)) → ℕ
reached_in (Some (Some seat)) = reached seat
reached_in other = 0

abbrev pub served_in : Option (Option (Seat LockedHeap)) → ℕ
served_in (Some (Some seat)) = served seat
served_in other = 0

-- the ticket of the heap's lock to which the pass knows that drawing has come
abbrev pub reached_at : Pass → ℕ → ℕ
reached_at pass h = reached_in (slice_get pass.seats.items h)

-- the ticket that the pass last found to be served there
abbrev pub served_at : Pass → ℕ → ℕ
served_at pass h = served_in (slice_get pass.seats.items h)

-- the first pass has found that the last ticket of the heap's lock was reached
abbrev pub HasFoundWorn : ℕ → List Pass → Type 0
HasFoundWorn heap [] = ⊥
HasFoundWorn heap (first ∷ others) = last_ticket ≤ reached_at first heap

-- ---- what is found

-- all tickets of a lock up to this one are drawn, and that is the last; or its book, as it was
-- seen, has the last stamp
abbrev pub IsAtLast : ℕ → Option LockedHeap → Type 0
IsAtLast reached seen = (last_ticket ≤ reached)
    ⊎ ((x : LockedHeap) × (seen ≡ Some x) × (LAST_STAMP ≤ x.book.stamp))

-- somebody else has drawn the ticket of a lock that is served, which is not the last
abbrev pub IsHeldElsewhere : ℕ → ℕ → Type 0
IsHeldElsewhere served reached = (served < last_ticket) × (served < reached)

-- a last value was found: of the stamp from which the call goes on, or in one of these heaps
abbrev pub HasFoundLast : ℕ → List ℕ → Pass → Type 0
HasFoundLast floor heaps pass = (LAST_STAMP ≤ floor)
    ⊎ ((h : ℕ) × IsIn h heaps × IsAtLast (reached_at pass h) (seen_at pass h))

-- one of these heaps was found to be another's
abbrev pub HasFoundBusy : List ℕ → Pass → Type 0
HasFoundBusy heaps pass = (h : ℕ) × IsIn h heaps
    × IsHeldElsewhere (served_at pass h) (reached_at pass h)

-- ---- why a call is refused

-- a call in these heaps was refused since a lock or the stamp is at its last value
abbrev pub IsWornIn : List ℕ → Pass → Pass → Type 0
IsWornIn heaps before after = IsStopped before after × HasFoundLast before.stamp heaps after

-- or since another thread holds one of them, or waits for it
abbrev pub IsBusyIn : List ℕ → Pass → Pass → Type 0
IsBusyIn heaps before after = IsStopped before after × HasFoundBusy heaps after

-- by the fault
abbrev pub IsRefusedIn : TryFault → List ℕ → Pass → Pass → Type 0
IsRefusedIn try.Worn heaps before after = IsWornIn heaps before after
IsRefusedIn try.Busy heaps before after = IsBusyIn heaps before after

-- ---- faults of the lock, as faults of a call

abbrev pub stop_of : TryFault → Stop
stop_of try.Worn = stop.Worn
stop_of try.Busy = stop.Busy

abbrev pub hold_of : TryFault → HoldFault
hold_of try.Worn = hold.Worn
hold_of try.Busy = hold.Busy

-- why a seat of a lock, which has found these tickets and seen this, begins no call
abbrev pub IsUnbegun : TryFault → ℕ → ℕ → ℕ → Option LockedHeap → Type 0
IsUnbegun try.Worn floor served reached seen = (LAST_STAMP ≤ floor) ⊎ IsAtLast reached seen
IsUnbegun try.Busy floor served reached seen = IsHeldElsewhere served reached

-- why a seat of a lock that has found these tickets was not given the value
abbrev pub IsUnlocked : Stop → ℕ → ℕ → Type 0
IsUnlocked stop.Worn served reached = last_ticket ≤ reached
IsUnlocked stop.Busy served reached = IsHeldElsewhere served reached
IsUnlocked stop.Nothing served reached = ⊥

-- ---- heaps that ZPOPNEAR passes over

-- the heap was held, its book had no member of the key, and it was let go as it was given; these
-- holds came later
pub record IsPassedOver (key : List ℕ) (later : List (Entry LockedHeap)) (before after : Pass)
    (h : ℕ) : Type 0 where
  pub given : LockedHeap
  pub none : length (queue_at (state_of given.book) key) ≡ 0
  pub ticket : ℕ
  pub turns : turns_at after h ≡ later ++ entry ticket given given ∷ turns_at before h

-- why a call in several heaps stops, which goes on from this stamp, and may have found enough
-- before: a last value, another's heap, or no member of the key in any of them
abbrev pub IsStopOf : ℕ → Bool → List ℕ → List ℕ → Pass → Pass → Stop → Type 0
IsStopOf floor enough heaps key before after stop.Worn = HasFoundLast floor heaps after
IsStopOf floor enough heaps key before after stop.Busy = HasFoundBusy heaps after
IsStopOf floor enough heaps key before after stop.Nothing = (enough ≡ false)
    × ((h : ℕ) → IsIn h heaps → IsPassedOver key [] before after h)
