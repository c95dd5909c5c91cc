-- Several heaps that a call holds.

use Rattle.std.proofs.Common.{refl, ◌∙◌}
use Rattle.std.specs.Prelude.{IfSome, List, Some, [], length, map, max, reverse, slice_get, true, ℕ, ◌+◌, ◌<◌, ◌∷◌, ◌≡◌, ◌≤◌, ◌⊎◌}
use Rattle.zq_dots.specs.Rule.{rule_of}
use Rattle.zq_model.specs.Books.{Book}
use Rattle.zq_model.specs.Reach.{IsWorked}
use Rattle.zq_journal.specs.Books.{LAST_STAMP, state_of}
use Rattle.zq_model.specs.Bounded.{IsBounded}
use Rattle.zq_model.specs.Sets.{IsIn}
use Rattle.zq_shard.specs.Shard.{queue_at}
use Rattle.zq_spread.specs.Calls.{greatest_stamp, heaps_of}
use Rattle.zq_spread.specs.LockedHeaps.{Follows, IsAtHome}
use Rattle.zq_spread.specs.Passes.{IsSeatOf, IsSeenLater, seen_at, steps_at}
use Rattle.zq_spread.specs.Recorded.{IsKeptOn, kept_itself, kept_through}
use Rattle.zq_spread.specs.HeapSlots.{IsOf, IsWorkedOn}
use Rattle.zq_spread.specs.Turns.{HasTurn, IsLeftAsGiven, turns_at}
use Rattle.zq_spread.specs.declared.locked_heaps.LockedHeaps.{LockedHeaps}
use Rattle.zq_spread.specs.declared.locked_heap.LockedHeap.{LockedHeap}
use Rattle.zq_spread.specs.declared.pass.Pass.{Pass}
use Rattle.zq_spread.specs.declared.heap_slot.HeapSlot.{HeapSlot}
use Rattle.zq_spread.specs.declared.site.Site.{Site}
use Rattle.zq_spread.specs.declared.lock_scan.LockScan.{LockScan}
use Rattle.zq_ticketlock.specs.Seats.{given, held_lock, held_logged, id_of, value_of}
use Rattle.zq_ticketlock.specs.Steps.{FollowsSeen}
use Rattle.zq_ticketlock.specs.declared.held.Held.{Held}

-- what is held, the lowest heap first
abbrev pub helds_of : LockedHeaps → List (Held LockedHeap)
helds_of holds = reverse holds.helds.items

-- the books that are held
abbrev pub books_of : List (Held LockedHeap) → List Book
books_of helds = map (λ (held : Held LockedHeap). (value_of held).book) helds

abbrev pub IsBoundedBook : Book → Type 0
IsBoundedBook book = IsBounded book.heaps book.heap book.state

-- heaps of the site, by rising number
abbrev pub AreHeapsOf : Site → List ℕ → Type 0
AreHeapsOf site [] = Unit {0}
AreHeapsOf site (h ∷ heaps) = (h < heaps_of site) × ((k : ℕ) → IsIn k heaps → h < k)
    × AreHeapsOf site heaps

-- ---- seats

-- the pass has its seats in these heaps
pub record HasSeatsIn (site : Site) (heaps : List ℕ) (pass : Pass) : Type 0 where
  pub number : length pass.seats.items ≡ heaps_of site
  pub seat : (h : ℕ) (slot : HeapSlot) → IsIn h heaps → slice_get site.slots.items h ≡ Some slot →
      IsSeatOf slot (slice_get pass.seats.items h)

-- nothing of the pass has changed but its seats in these heaps
pub record IsSameOutside (heaps : List ℕ) (before after : Pass) : Type 0 where
  pub number : length after.seats.items ≡ length before.seats.items
  pub seats : (k : ℕ) → (IsIn k heaps → ⊥) →
      slice_get after.seats.items k ≡ slice_get before.seats.items k
  pub counts : after.counts ≡ before.counts
  pub stamp : after.stamp ≡ before.stamp

-- the pass has its seats in these heaps again, they have seen what follows what they had, and let
-- go as it was given what they held
pub record AreBack (site : Site) (heaps : List ℕ) (before after : Pass) : Type 0 where
  pub seats : HasSeatsIn site heaps after
  pub outside : IsSameOutside heaps before after
  pub seen : (h : ℕ) → IsIn h heaps → IsSeenLater (seen_at after h) (seen_at before h)
  pub left : (h : ℕ) → IsIn h heaps → IsLeftAsGiven (turns_at after h) (turns_at before h)

-- ---- heaps that are held

-- the heap is held, with the value that was given
pub record IsHeldAt (site : Site) (h : ℕ) (held : Held LockedHeap) : Type 0 where
  pub slot : HeapSlot
  pub at : slice_get site.slots.items h ≡ Some slot
  pub lock : held_lock held ≡ id_of slot.lock
  pub was_given : given held ≡ Some (value_of held)
  pub home : IsAtHome (value_of held)
  pub of : IsOf slot (value_of held)

-- a call of this stamp has begun in a heap that was held so
pub record IsBegunFrom (stamp : ℕ) (old now : Held LockedHeap) : Type 0 where
  pub lock : held_lock now ≡ held_lock old
  pub was_given : given now ≡ given old
  pub worked : IsWorked (value_of now).book (value_of old).book stamp []
  pub total : (value_of now).total ≡ (value_of old).total
  pub bounded : IsBoundedBook (value_of now).book
  pub turns : held_logged now ≡ held_logged old

-- and it was put onto the stack
abbrev pub HasPushed : ℕ → Held LockedHeap → List (Held LockedHeap) → List (Held LockedHeap) →
    Type 0
HasPushed stamp old before after = (now : Held LockedHeap) × (after ≡ now ∷ before)
    × IsBegunFrom stamp old now

-- a call of this stamp has begun in a heap that is held, on the value that it found there
pub record IsBegunAt (site : Site) (before : Pass) (stamp h : ℕ) (held : Held LockedHeap)
    (found : LockedHeap) : Type 0 where
  pub slot : HeapSlot
  pub at : slice_get site.slots.items h ≡ Some slot
  pub lock : held_lock held ≡ id_of slot.lock
  pub was_given : given held ≡ Some found
  pub follows : FollowsSeen Follows found (seen_at before h)
  pub home : IsAtHome found
  pub of : IsOf slot found
  pub later : found.book.stamp < stamp
  pub worked : IsWorked (value_of held).book found.book stamp []
  pub total : (value_of held).total ≡ found.total
  pub bounded : IsBoundedBook (value_of held).book
  pub turns : held_logged held ≡ turns_at before h

-- in each of the heaps
abbrev pub AreBegunAt : Site → Pass → ℕ → List ℕ → List (Held LockedHeap) → List LockedHeap → Type 0
AreBegunAt site before stamp [] [] [] = Unit {0}
AreBegunAt site before stamp (h ∷ heaps) (held ∷ helds) (x ∷ found) =
    IsBegunAt site before stamp h held x × AreBegunAt site before stamp heaps helds found
AreBegunAt site before stamp heaps helds found = ⊥

-- one of the values has a member of the key
abbrev pub HasMemberIn : List ℕ → List LockedHeap → Type 0
HasMemberIn key found = (x : LockedHeap) × IsIn x found
    × (1 ≤ length (queue_at (state_of x.book) key))

-- a call that sought this has begun in these heaps: its stamp is the one after the greatest that it
-- found, and there was enough, or one heap has a member of the key
pub record HasBegun (site : Site) (before : Pass) (heaps key : List ℕ) (scan : LockScan) (stamp : ℕ)
    (helds : List (Held LockedHeap)) : Type 0 where
  pub found : List LockedHeap
  pub each : AreBegunAt site before stamp heaps helds found
  pub next : stamp ≡ max scan.stamp (greatest_stamp found) + 1
  pub last : stamp ≤ LAST_STAMP
  pub enough : (scan.is_enough ≡ true) ⊎ HasMemberIn key found

-- ---- work

-- the book is that of a heap of the site
pub record IsBookAt (site : Site) (h : ℕ) (book : Book) : Type 0 where
  pub heap : book.heap ≡ h
  pub heaps : book.heaps ≡ heaps_of site
  pub rule : book.rule ≡ rule_of site.rule
  pub bounded : IsBounded book.heaps book.heap book.state

abbrev pub AreBooksAt : Site → List ℕ → List Book → Type 0
AreBooksAt site [] [] = Unit {0}
AreBooksAt site (h ∷ heaps) (book ∷ books) = IsBookAt site h book × AreBooksAt site heaps books
AreBooksAt site heaps books = ⊥

-- the value that is held was worked on
pub record IsHeldOn (old new : Held LockedHeap) : Type 0 where
  pub lock : held_lock new ≡ held_lock old
  pub was_given : given new ≡ given old
  pub kept : IsKeptOn (value_of old) (value_of new)
  pub turns : held_logged new ≡ held_logged old

abbrev pub AreHeldOn : List (Held LockedHeap) → List (Held LockedHeap) → Type 0
AreHeldOn [] [] = Unit {0}
AreHeldOn (x ∷ old) (y ∷ new) = IsHeldOn x y × AreHeldOn old new
AreHeldOn old new = ⊥

pub held_on_itself : (helds : List (Held LockedHeap)) → AreHeldOn helds helds
held_on_itself [] = tt
held_on_itself (x ∷ helds) = (
  record { lock = refl; was_given = refl; kept = kept_itself (value_of x); turns = refl },
  held_on_itself helds,
)

pub held_on_through : (xs ys zs : List (Held LockedHeap)) → AreHeldOn xs ys → AreHeldOn ys zs →
    AreHeldOn xs zs
held_on_through [] [] [] first second = tt
held_on_through [] [] (z ∷ zs) first second = absurd second
held_on_through [] (y ∷ ys) zs first second = absurd first
held_on_through (x ∷ xs) [] zs first second = absurd first
held_on_through (x ∷ xs) (y ∷ ys) [] first second = absurd second
held_on_through (x ∷ xs) (y ∷ ys) (z ∷ zs) first second = (
  record {
    lock = second.0.lock ∙ first.0.lock;
    was_given = second.0.was_given ∙ first.0.was_given;
    kept = kept_through (value_of x) (value_of y) (value_of z) first.0.kept second.0.kept;
    turns = second.0.turns ∙ first.0.turns;
  },
  held_on_through xs ys zs first.1 second.1,
)

-- a heap is held whose call may end
pub record MayEndAt (site : Site) (h : ℕ) (held : Held LockedHeap) : Type 0 where
  pub slot : HeapSlot
  pub at : slice_get site.slots.items h ≡ Some slot
  pub lock : held_lock held ≡ id_of slot.lock
  pub worked : IfSome (given held) (IsWorkedOn slot (value_of held))

abbrev pub MayEndIn : Site → List ℕ → List (Held LockedHeap) → Type 0
MayEndIn site [] [] = Unit {0}
MayEndIn site (h ∷ heaps) (held ∷ helds) = MayEndAt site h held × MayEndIn site heaps helds
MayEndIn site heaps helds = ⊥

-- the call has ended in the heap: the pass has seen the book that was held, has made the steps by
-- which its count rose, and has put that home
pub record HasEndedAt (before after : Pass) (h : ℕ) (held : Held LockedHeap) : Type 0 where
  pub left : LockedHeap
  pub seen : seen_at after h ≡ Some left
  pub book : left.book ≡ (value_of held).book
  pub steps : IfSome (given held) (λ found. steps_at after h + found.book.count
      ≡ steps_at before h + (value_of held).book.count)
  pub turn : IfSome (given held) (λ found. HasTurn found left (turns_at after h) (held_logged held))

abbrev pub HasEndedIn : Pass → Pass → List ℕ → List (Held LockedHeap) → Type 0
HasEndedIn before after [] [] = Unit {0}
HasEndedIn before after (h ∷ heaps) (held ∷ helds) = HasEndedAt before after h held
    × HasEndedIn before after heaps helds
HasEndedIn before after heaps helds = ⊥
