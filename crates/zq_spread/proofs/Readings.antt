-- What calls read of a heap.

use Rattle.std.proofs.Common.{ap, refl, subst, sym, ◌∙◌}
use Rattle.std.specs.Prelude.{Err, IfOk, List, Ok, Result, Some, [], ℕ, ◌≡◌}
use Rattle.zq_model.specs.Books.{Book}
use Rattle.zq_model.specs.Reach.{IsWorked}
use Rattle.zq_journal.specs.Books.{state_of}
use Rattle.zq_journal.specs.declared.since.Since.{Since}
use Rattle.zq_model.specs.Image.{Image}
use Rattle.zq_shard.specs.Shard.{HeapImage}
use Rattle.zq_shard.specs.declared.spot.Spot.{Spot}
use Rattle.zq_stage.specs.Portion.{IsPortion}
use Rattle.zq_stage.specs.declared.portion.Portion.{Portion}
use Rattle.zq_stage.specs.declared.portion.PortionLimits.{PortionLimits}
use Rattle.zq_spread.specs.Answers.{HasWorked, IsAsked, IsCopied, IsCopyOf, IsPortionOf, IsPortioned, IsShown, IsSince, read_of}
use Rattle.zq_spread.specs.Calls.{HasSeenBook}
use Rattle.zq_spread.specs.Passes.{seen_at}
use Rattle.zq_spread.specs.declared.faults.ReadFault.{ReadFault}
use Rattle.zq_spread.specs.declared.faults.ReadFault.TheVariants as unread
use Rattle.zq_spread.specs.declared.locked_heap.LockedHeap.{LockedHeap}
use Rattle.zq_spread.specs.declared.pass.Pass.{Pass}

-- a call leaves the state as it was when it began
begun_state : (b a : Book) (stamp : ℕ) → IsWorked b a stamp [] → state_of b ≡ state_of a
begun_state b a stamp is = λ i. record { heap = is.heap i; heaps = is.heaps i; rule = is.rule i; image = is.state i }

copy_found : (r : Result HeapImage ReadFault) (b a : Book) (stamp : ℕ) → IsWorked b a stamp [] → read_of IsCopyOf r b → read_of IsCopyOf r a
copy_found (Ok shard) b a stamp begun is = is ∙ begun_state b a stamp begun
copy_found (Err unread.Worn) b a stamp begun is = absurd is
copy_found (Err unread.NoMemory) b a stamp begun is = tt

-- a vector that is read where a call began is what the call shows
pub shown_by : (v : List ℕ) (b a : Book) (stamp : ℕ) → v ≡ b.state.vector → IsWorked b a stamp [] → HasWorked (IsShown v) b a stamp
shown_by v b a stamp is begun = ([], begun, (is ∙ ap (λ (i : Image). i.vector) begun.state, refl))

-- a copy of a heap where a call began is what the call answers
pub copied_by : (r : Result HeapImage ReadFault) (b a : Book) (stamp : ℕ) → read_of IsCopyOf r b → IsWorked b a stamp [] → HasWorked (IsCopied r) b a stamp
copied_by r b a stamp is begun = ([], begun, (copy_found r b a stamp begun is, refl))

portion_found : (spot : Spot) (limits : PortionLimits) (r : Result Portion ReadFault) (b a : Book) (stamp : ℕ) → IsWorked b a stamp [] → read_of (IsPortionOf spot limits) r b → read_of (IsPortionOf spot limits) r a
portion_found spot limits (Ok portion) b a stamp begun is = subst (λ s. IsPortion s spot limits portion.part portion.next) (begun_state b a stamp begun) is
portion_found spot limits (Err unread.Worn) b a stamp begun is = absurd is
portion_found spot limits (Err unread.NoMemory) b a stamp begun is = tt

-- so is a portion of it
pub portioned_by : (spot : Spot) (limits : PortionLimits) (r : Result Portion ReadFault) (b a : Book) (stamp : ℕ) → read_of (IsPortionOf spot limits) r b → IsWorked b a stamp [] →
    HasWorked (IsPortioned spot limits r) b a stamp
portioned_by spot limits r b a stamp is begun = ([], begun, (portion_found spot limits r b a stamp begun is, refl))

asked : (v : List ℕ) (r : Result Since ReadFault) (b : Book) → read_of (IsSince v) r b → read_of (λ (since : Since) (book : Book). Unit {0}) r b
asked v (Ok since) b is = tt
asked v (Err unread.Worn) b is = absurd is
asked v (Err unread.NoMemory) b is = tt

asked_of : (r : Result Since ReadFault) (b a : Book) → read_of (λ (since : Since) (book : Book). Unit {0}) r b → read_of (λ (since : Since) (book : Book). Unit {0}) r a
asked_of (Ok since) b a is = tt
asked_of (Err unread.Worn) b a is = absurd is
asked_of (Err unread.NoMemory) b a is = tt

-- and so is what its book says to a peer,
pub asked_by : (v : List ℕ) (r : Result Since ReadFault) (b a : Book) (stamp : ℕ) → read_of (IsSince v) r b → IsWorked b a stamp [] → HasWorked (IsAsked r) b a stamp
asked_by v r b a stamp is begun = ([], begun, (asked_of r b a (asked v r b is), refl))

-- of the book that the pass has then seen
pub answered_of : (v : List ℕ) (r : Result Since ReadFault) (b : Book) (new : Pass) (h : ℕ) → read_of (IsSince v) r b → ((left : LockedHeap) × (seen_at new h ≡ Some left) × (left.book ≡ b)) →
    IfOk r (λ since. HasSeenBook new h (IsSince v since))
answered_of v (Ok since) b new h is left = (left.0, left.1, subst (IsSince v since) (sym left.2) is)
answered_of v (Err fault) b new h is left = tt
