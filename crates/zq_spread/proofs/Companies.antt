-- All passes of a site together, where a seat or the counts of a heap were out.

use Rattle.std.proofs.Common.{ap, arith, inl, inr, subst, sym, ◌∙◌}
use Rattle.std.proofs.lemmas.Bool.{cases_eq}
use Rattle.std.proofs.lemmas.List.Elements.{All-cons, All-head, All-nil, All-tail}
use Rattle.std.proofs.lemmas.List.Sums.{sum_by-cons}
use Rattle.std.proofs.lemmas.Option.{same_Some}
use Rattle.std.specs.List.{AllZip}
use Rattle.std.specs.Prelude.{All, IsSome, List, None, Option, Some, [], length, refl, slice_get, ℕ, ◌≡◌, ◌≤◌, ◌∷◌}
use Rattle.zq_model.specs.Reach.{Reached}
use Rattle.zq_journal.specs.Books.{LAST_STAMP}
use Rattle.zq_spread.specs.Companies.{IsCountBack, IsSameBut, IsSamePass, steps_of_all}
use Rattle.zq_spread.specs.LockedHeaps.{Follows, follows_itself}
use Rattle.zq_spread.specs.Passes.{IsCountOf, IsPassBut, IsPassOf, IsSeatOf, seen_at, seen_in, steps_at}
use Rattle.zq_spread.specs.HeapSlots.{IsOf}
use Rattle.zq_spread.specs.Turns.{turns_at, turns_in}
use Rattle.zq_spread.specs.declared.locked_heap.LockedHeap.{LockedHeap}
use Rattle.zq_spread.specs.declared.pass.Pass.{Pass}
use Rattle.zq_spread.specs.declared.heap_slot.HeapSlot.{HeapSlot}
use Rattle.zq_spread.specs.declared.site.Site.{Site}
use Rattle.zq_tally.specs.Words.{IsSameTotal}
use Rattle.zq_tally.specs.declared.count.Count.{Count}
use Rattle.zq_ticketlock.proofs.Told.{seen_some}
use Rattle.zq_ticketlock.specs.Seats.{seen}
use Rattle.zq_ticketlock.specs.Steps.{FollowsSeen}
use Rattle.zq_ticketlock.specs.declared.seat.Seat.{Seat}

-- what follows a value of a heap is of that heap
pub follows_of : (slot : HeapSlot) (later earlier : LockedHeap) → Follows later earlier → IsOf slot earlier → IsOf slot later
follows_of slot later earlier follow is =
    let reached = follow.0.1 in
    let counted = follow.1.2 in
    let began = is.count in
    record {
      heap = reached.heap ∙ is.heap;
      heaps = reached.heaps ∙ is.heaps;
      rule = reached.rule ∙ is.rule;
      table = follow.1.0 ∙ is.table;
      parts = follow.1.1 ∙ is.parts;
      count = omega (arith, counted, began);
    }

-- a value whose total was tallied follows what it was
pub tallied_follows : (now old : LockedHeap) → now.book ≡ old.book → IsSameTotal now.total old.total → Follows now old
tallied_follows now old book total =
    let itself = follows_itself old in
    let same = total.1 in
    let count : now.book.count ≡ old.book.count = ap (λ b. b.count) book in
    (subst (λ b. Reached b old.book) (sym book) itself.0, (total.0, total.2, omega (arith, same, count)))

module _ (site : Site) (heap : ℕ) (slot : HeapSlot) (at : slice_get site.slots.items heap ≡ Some slot) where
  back_count : (x y : Pass) → IsCountBack slot heap x y → ((h : ℕ) (r : HeapSlot) → slice_get site.slots.items h ≡ Some r → IsCountOf r (slice_get x.counts.items h)) →
      (h : ℕ) (r : HeapSlot) → slice_get site.slots.items h ≡ Some r → IsCountOf r (slice_get y.counts.items h)
  back_count x y back counts h r at_h = elim (cases_eq h heap) [
    | inl same ↦ (
        let one : Some slot ≡ Some r = sym at ∙ ap (slice_get site.slots.items) (sym same) ∙ at_h in
        subst (λ q. IsCountOf q (slice_get y.counts.items h)) (same_Some slot r one) (subst (λ k. IsCountOf slot (slice_get y.counts.items k)) (sym same) back.count))
    | inr other ↦ subst (IsCountOf r) (sym (back.rest h other)) (counts h r at_h)
  ]

  pub back_pass : (x y : Pass) → IsCountBack slot heap x y → IsPassOf site x → IsPassOf site y
  back_pass x y back is = record {
    seats = ap (λ l. length l.items) back.seats ∙ is.seats;
    counts = back.number ∙ is.counts;
    slots = is.slots;
    seat = λ h r at_h. subst (λ l. IsSeatOf r (slice_get l.items h)) (sym back.seats) (is.seat h r at_h);
    count = back_count x y back is.count;
    stamp = subst (λ n. n ≤ LAST_STAMP) (sym back.stamp) is.stamp;
  }

  pub back_but : (x y : Pass) → IsCountBack slot heap x y → IsPassBut site (heap ∷ []) x → IsPassBut site (heap ∷ []) y
  back_but x y back is = record {
    seats = ap (λ l. length l.items) back.seats ∙ is.seats;
    counts = back.number ∙ is.counts;
    slots = is.slots;
    seat = λ h r other at_h. subst (λ l. IsSeatOf r (slice_get l.items h)) (sym back.seats) (is.seat h r other at_h);
    count = back_count x y back is.count;
    stamp = subst (λ n. n ≤ LAST_STAMP) (sym back.stamp) is.stamp;
  }

  pub all_back : (xs ys : List Pass) → AllZip (IsCountBack slot heap) xs ys → All (IsPassOf site) xs → All (IsPassOf site) ys
  all_back [] [] back all = All-nil (IsPassOf site)
  all_back [] (y ∷ ys) back all = absurd back
  all_back (x ∷ xs) [] back all = absurd back
  all_back (x ∷ xs) (y ∷ ys) back all =
      All-cons (IsPassOf site) y ys (back_pass x y back.0 (All-head (IsPassOf site) x xs all)) (all_back xs ys back.1 (All-tail (IsPassOf site) x xs all))

-- nothing can be told of a pass whose count came back
pub back_same : (slot : HeapSlot) (heap : ℕ) (x y : Pass) → IsCountBack slot heap x y → IsSamePass x y
back_same slot heap x y back = record {
  stamp = back.stamp;
  steps = back.steps;
  seen = λ k. ap (λ l. seen_in (slice_get l.items k)) back.seats;
  turns = λ k. ap (λ l. turns_in (slice_get l.items k)) back.seats;
}

pub all_same : (slot : HeapSlot) (heap : ℕ) (xs ys : List Pass) → AllZip (IsCountBack slot heap) xs ys → AllZip IsSamePass xs ys
all_same slot heap [] [] back = tt
all_same slot heap [] (y ∷ ys) back = absurd back
all_same slot heap (x ∷ xs) [] back = absurd back
all_same slot heap (x ∷ xs) (y ∷ ys) back = (back_same slot heap x y back.0, all_same slot heap xs ys back.1)

pub same_itself : (xs : List Pass) → AllZip IsSamePass xs xs
same_itself [] = tt
same_itself (x ∷ xs) = (record { stamp = refl; steps = λ k. refl; seen = λ k. refl; turns = λ k. refl }, same_itself xs)

-- the passes have the steps that they had
pub same_sum : (h : ℕ) (xs ys : List Pass) → AllZip IsSamePass xs ys → steps_of_all h ys ≡ steps_of_all h xs
same_sum h [] [] same = refl
same_sum h [] (y ∷ ys) same = absurd same
same_sum h (x ∷ xs) [] same = absurd same
same_sum h (x ∷ xs) (y ∷ ys) same =
    let one : steps_at y h ≡ steps_at x h = same.0.steps h in
    let rest : steps_of_all h ys ≡ steps_of_all h xs = same_sum h xs ys same.1 in
    sum_by-cons (λ pass. steps_at pass h) y ys ∙ omega (arith, one, rest) ∙ sym (sum_by-cons (λ pass. steps_at pass h) x xs)

-- one change after another
pub same_but_then : (heap : ℕ) (a b c : Pass) → IsSameBut heap a b → IsSameBut heap b c → IsSameBut heap a c
same_but_then heap a b c one two = record {
  stamp = two.stamp ∙ one.stamp;
  steps = λ k. two.steps k ∙ one.steps k;
  others = λ k other. two.others k other ∙ one.others k other;
  turns = λ k other. two.turns k other ∙ one.turns k other;
}

-- where a seat came back as it was, nothing can be told
pub same_pass : (heap : ℕ) (a b c : Pass) → IsSameBut heap a b → IsSameBut heap b c → seen_at c heap ≡ seen_at a heap → turns_at c heap ≡ turns_at a heap → IsSamePass a c
same_pass heap a b c one two seen turns =
    let both = same_but_then heap a b c one two in
    record {
      stamp = both.stamp;
      steps = both.steps;
      seen = λ k. elim (cases_eq k heap) [ inl same ↦ subst (λ j. seen_at c j ≡ seen_at a j) (sym same) seen | inr other ↦ both.others k other ];
      turns = λ k. elim (cases_eq k heap) [ inl same ↦ subst (λ j. turns_at c j ≡ turns_at a j) (sym same) turns | inr other ↦ both.turns k other ];
    }

pub back_but_same : (slot : HeapSlot) (heap : ℕ) (x y : Pass) → IsCountBack slot heap x y → IsSameBut heap x y
back_but_same slot heap x y back = let same = back_same slot heap x y back in record {
  stamp = same.stamp;
  steps = same.steps;
  others = λ k other. same.seen k;
  turns = λ k other. same.turns k;
}

-- a value that follows what a seat of the heap has seen is of the heap
pub held_of : (slot : HeapSlot) (seat : Seat LockedHeap) (value : LockedHeap) → IsSome (seen seat) → IsSeatOf slot (Some (Some seat)) → FollowsSeen Follows value (seen seat) →
    (x : LockedHeap) × (seen seat ≡ Some x) × Follows value x × IsOf slot value
held_of slot seat value some is follow =
    let was = seen_some (IsOf slot) (seen seat) some is.1 in
    let later : Follows value was.0 = subst (λ o. FollowsSeen Follows value o) was.1 follow in
    (was.0, was.1, later, follows_of slot value was.0 later was.2)

-- the count that is there
pub count_in : (slot : HeapSlot) (o : Option (Option Count)) → IsCountOf slot o → (count : Count) × (o ≡ Some (Some count))
count_in slot (Some (Some count)) is = (count, refl)
count_in slot (Some None) is = absurd is
count_in slot None is = absurd is

pub sum_none : (h : ℕ) (xs : List Pass) → length xs ≡ 0 → steps_of_all h xs ≡ 0
sum_none h [] none = refl
sum_none h (x ∷ xs) none = absurd (omega (arith, none))
