-- The seats and counts of a pass, while a call has one of them.

use Rattle.std.proofs.Common.{ap, inl, inr, subst, sym, ◌∙◌}
use Rattle.std.proofs.lemmas.Bool.{cases_eq}
use Rattle.std.proofs.lemmas.List.{length-set}
use Rattle.std.proofs.lemmas.Option.{same_Some, slice_get_read}
use Rattle.std.specs.Prelude.{List, None, Option, Some, [], get_or, length, slice_get, slice_set, ℕ, ◌<◌, ◌≡◌, ◌≤◌, ◌∷◌}
use Rattle.zq_journal.specs.Books.{LAST_STAMP}
use Rattle.zq_posheap.proofs.Lists.{slice_get-set_other, slice_get-set_same}
use Rattle.zq_spread.specs.LockedHeaps.{follows_itself}
use Rattle.zq_spread.proofs.LeftAsGiven.{none_held}
use Rattle.zq_spread.specs.Passes.{IsCountOf, IsPassBut, IsPassOf, IsSeatOf, IsSeenLater, IsStopped, seen_at, steps_at}
use Rattle.zq_spread.specs.Turns.{IsLeftAsGiven, turns_at}
use Rattle.zq_spread.specs.declared.locked_heap.LockedHeap.{LockedHeap}
use Rattle.zq_spread.specs.declared.pass.Pass.{Pass}
use Rattle.zq_spread.specs.declared.heap_slot.HeapSlot.{HeapSlot}
use Rattle.zq_spread.specs.declared.site.Site.{Site}
use Rattle.zq_tally.specs.declared.count.Count.{Count}
use Rattle.zq_ticketlock.specs.declared.seat.Seat.{Seat}

-- what stood where it was taken out
pub taken_at : {X : Type 0} (xs : List X) (n i : ℕ) (x took y : X) → length xs ≡ n → i < n → x ≡ get_or xs i x → took ≡ x → took ≡ y → slice_get xs i ≡ Some y
taken_at xs n i x took y long within is same some = slice_get_read xs n i x (sym long) within is ∙ ap Some (sym same ∙ some)

-- a pass of which a seat was taken
pub seat_out : (site : Site) (pass new : Pass) (heap : ℕ) (x : Option (Seat LockedHeap)) → new.seats.items ≡ slice_set pass.seats.items heap x → new.counts ≡ pass.counts →
    new.stamp ≡ pass.stamp → IsPassOf site pass → IsPassBut site (heap ∷ []) new
seat_out site pass new heap x seats counts stamp is = record {
  seats = ap length seats ∙ length-set pass.seats.items heap x ∙ is.seats;
  counts = ap (λ c. length c.items) counts ∙ is.counts;
  slots = is.slots;
  seat = λ h slot other at. subst (IsSeatOf slot) (sym (ap (λ l. slice_get l h) seats ∙ slice_get-set_other pass.seats.items heap h x (λ same. other (inl (sym same))))) (is.seat h slot at);
  count = λ h slot at. subst (λ c. IsCountOf slot (slice_get c.items h)) (sym counts) (is.count h slot at);
  stamp = subst (λ n. n ≤ LAST_STAMP) (sym stamp) is.stamp;
}

-- and of which the seat was put back
pub seat_home : (site : Site) (pass new : Pass) (heap : ℕ) (out : List ℕ) (slot : HeapSlot) (seat : Seat LockedHeap) → heap < length site.slots.items → slice_get site.slots.items heap ≡ Some slot →
    new.seats.items ≡ slice_set pass.seats.items heap (Some seat) → new.counts ≡ pass.counts → new.stamp ≡ pass.stamp → IsSeatOf slot (Some (Some seat)) →
    IsPassBut site (heap ∷ out) pass → IsPassBut site out new
seat_home site pass new heap out slot seat within at seats counts stamp fits is =
    let here : slice_get new.seats.items heap ≡ Some (Some seat) =
    ap (λ l. slice_get l heap) seats ∙ slice_get-set_same pass.seats.items heap (Some seat) (subst (λ n. heap < n) (sym is.seats) within) in
    let there : (h : ℕ) → (h ≡ heap → ⊥) → slice_get new.seats.items h ≡ slice_get pass.seats.items h =
    λ h other. ap (λ l. slice_get l h) seats ∙ slice_get-set_other pass.seats.items heap h (Some seat) other in
    record {
      seats = ap length seats ∙ length-set pass.seats.items heap (Some seat) ∙ is.seats;
      counts = ap (λ c. length c.items) counts ∙ is.counts;
      slots = is.slots;
      seat = λ h other_slot away at_h. elim (cases_eq h heap) [
        | inl same ↦ (
            let one : Some slot ≡ Some other_slot = sym at ∙ ap (slice_get site.slots.items) (sym same) ∙ at_h in
            subst (λ r. IsSeatOf r (slice_get new.seats.items h)) (same_Some slot other_slot one) (subst (IsSeatOf slot) (sym (ap (slice_get new.seats.items) same ∙ here)) fits))
        | inr other ↦ subst (IsSeatOf other_slot) (sym (there h other)) (is.seat h other_slot (λ here. elim here [ inl e ↦ other (sym e) | inr later ↦ away later ]) at_h)
      ];
      count = λ h slot at. subst (λ c. IsCountOf slot (slice_get c.items h)) (sym counts) (is.count h slot at);
      stamp = subst (λ n. n ≤ LAST_STAMP) (sym stamp) is.stamp;
    }

-- a pass with no seat out is one of the site's
pub all_home : (site : Site) (pass : Pass) → IsPassBut site [] pass → IsPassOf site pass
all_home site pass is = record {
  seats = is.seats;
  counts = is.counts;
  slots = is.slots;
  seat = λ h slot at. is.seat h slot (λ none. absurd none) at;
  count = is.count;
  stamp = is.stamp;
}

pub seat_back : (site : Site) (pass new : Pass) (heap : ℕ) (slot : HeapSlot) (seat : Seat LockedHeap) → heap < length site.slots.items → slice_get site.slots.items heap ≡ Some slot →
    new.seats.items ≡ slice_set pass.seats.items heap (Some seat) → new.counts ≡ pass.counts → new.stamp ≡ pass.stamp → IsSeatOf slot (Some (Some seat)) →
    IsPassBut site (heap ∷ []) pass → IsPassOf site new
seat_back site pass new heap slot seat within at seats counts stamp fits is = all_home site new (seat_home site pass new heap [] slot seat within at seats counts stamp fits is)

-- a pass of which a count was taken and put back
pub count_back : (site : Site) (pass new : Pass) (out : List ℕ) (heap : ℕ) (slot : HeapSlot) (x : Option Count) (count : Count) → heap < length site.slots.items →
    slice_get site.slots.items heap ≡ Some slot → new.seats ≡ pass.seats → new.counts.items ≡ slice_set (slice_set pass.counts.items heap x) heap (Some count) →
    new.stamp ≤ LAST_STAMP → IsCountOf slot (Some (Some count)) → IsPassBut site out pass → IsPassBut site out new
count_back site pass new out heap slot x count within at seats counts stamp fits is =
    let long : length (slice_set pass.counts.items heap x) ≡ length site.slots.items = length-set pass.counts.items heap x ∙ is.counts in
    let here : slice_get new.counts.items heap ≡ Some (Some count) =
    ap (λ l. slice_get l heap) counts ∙ slice_get-set_same (slice_set pass.counts.items heap x) heap (Some count) (subst (λ n. heap < n) (sym long) within) in
    let there : (h : ℕ) → (h ≡ heap → ⊥) → slice_get new.counts.items h ≡ slice_get pass.counts.items h =
    λ h other. ap (λ l. slice_get l h) counts ∙ slice_get-set_other (slice_set pass.counts.items heap x) heap h (Some count) other ∙ slice_get-set_other pass.counts.items heap h x other in
    record {
      seats = ap (λ l. length l.items) seats ∙ is.seats;
      counts = ap length counts ∙ length-set (slice_set pass.counts.items heap x) heap (Some count) ∙ long;
      slots = is.slots;
      seat = λ h slot other at. subst (λ l. IsSeatOf slot (slice_get l.items h)) (sym seats) (is.seat h slot other at);
      count = λ h other_slot at_h. elim (cases_eq h heap) [
        | inl same ↦ (
            let one : Some slot ≡ Some other_slot = sym at ∙ ap (slice_get site.slots.items) (sym same) ∙ at_h in
            subst (λ r. IsCountOf r (slice_get new.counts.items h)) (same_Some slot other_slot one) (subst (IsCountOf slot) (sym (ap (slice_get new.counts.items) same ∙ here)) fits))
        | inr other ↦ subst (IsCountOf other_slot) (sym (there h other)) (is.count h other_slot at_h)
      ];
      stamp = stamp;
    }

-- what a pass has seen, it has seen later
pub seen_later : (o : Option LockedHeap) → IsSeenLater o o
seen_later (Some x) = follows_itself x
seen_later None = tt

-- a pass whose seat came back, having seen what follows what it had, and let go as it was given what it held
pub stopped : (before after : Pass) (heap : ℕ) → ((k : ℕ) → steps_at after k ≡ steps_at before k) → after.stamp ≡ before.stamp → IsSeenLater (seen_at after heap) (seen_at before heap) →
    IsLeftAsGiven (turns_at after heap) (turns_at before heap) → ((k : ℕ) → (k ≡ heap → ⊥) → (seen_at after k ≡ seen_at before k) × (turns_at after k ≡ turns_at before k)) → IsStopped before after
stopped before after heap steps stamp later left others = record {
  stamp = stamp;
  steps = steps;
  seen = λ h. elim (cases_eq h heap) [
    | inl same ↦ subst (λ k. IsSeenLater (seen_at after k) (seen_at before k)) (sym same) later
    | inr other ↦ subst (λ o. IsSeenLater o (seen_at before h)) (sym (others h other).0) (seen_later (seen_at before h))
  ];
  left = λ h. elim (cases_eq h heap) [
    | inl same ↦ subst (λ k. IsLeftAsGiven (turns_at after k) (turns_at before k)) (sym same) left
    | inr other ↦ subst (λ l. IsLeftAsGiven l (turns_at before h)) (sym (others h other).1) (none_held (turns_at before h))
  ];
}
