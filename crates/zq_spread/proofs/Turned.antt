-- The heaps that a call holds lie in a stack, the lowest one last: what stands at a place, and what is written there.

use Rattle.std.proofs.Common.{List, Some, [], ap, arith, get_or, length, refl, reverse, set, subst, suc, sym, zero, ℕ, ◌++◌, ◌+◌, ◌-◌, ◌<◌, ◌∙◌, ◌∷◌, ◌≡◌}
use Rattle.std.proofs.lemmas.List.{length-map, length-reverse, reverse-append, reverse-reverse}
use Rattle.std.proofs.lemmas.Option.{same_Some, slice_get_read}
use Rattle.std.specs.Prelude.{slice_get}
use Rattle.zq_spread.specs.Recorded.{kept_itself}
use Rattle.zq_spread.specs.Several.{AreHeldOn, IsHeldOn, books_of, held_on_itself}
use Rattle.zq_spread.specs.declared.locked_heap.LockedHeap.{LockedHeap}
use Rattle.zq_ticketlock.specs.Seats.{value_of}
use Rattle.zq_ticketlock.specs.declared.held.Held.{Held}

module _ {X : Type 0} where
  get_front : (xs : List X) (a : X) (i : ℕ) → i < length xs → slice_get (xs ++ a ∷ []) i ≡ slice_get xs i
  get_front [] a i within = absurd (omega (arith, within))
  get_front (x ∷ xs) a zero within = refl
  get_front (x ∷ xs) a (suc i) within = get_front xs a i (omega (arith, within))

  get_last : (xs : List X) (a : X) (i : ℕ) → i ≡ length xs → slice_get (xs ++ a ∷ []) i ≡ Some a
  get_last [] a zero is = refl
  get_last [] a (suc i) is = absurd (omega (arith, is))
  get_last (x ∷ xs) a zero is = absurd (omega (arith, is))
  get_last (x ∷ xs) a (suc i) is = get_last xs a i (omega (arith, is))

  set_front : (xs : List X) (a y : X) (i : ℕ) → i < length xs → set (xs ++ a ∷ []) i y ≡ set xs i y ++ a ∷ []
  set_front [] a y i within = absurd (omega (arith, within))
  set_front (x ∷ xs) a y zero within = refl
  set_front (x ∷ xs) a y (suc i) within = ap (λ l. x ∷ l) (set_front xs a y i (omega (arith, within)))

  set_last : (xs : List X) (a y : X) (i : ℕ) → i ≡ length xs → set (xs ++ a ∷ []) i y ≡ xs ++ y ∷ []
  set_last [] a y zero is = refl
  set_last [] a y (suc i) is = absurd (omega (arith, is))
  set_last (x ∷ xs) a y zero is = absurd (omega (arith, is))
  set_last (x ∷ xs) a y (suc i) is = ap (λ l. x ∷ l) (set_last xs a y i (omega (arith, is)))

  -- a list with one more in front, turned round
  turned : (a : X) (xs : List X) → reverse (a ∷ xs) ≡ reverse xs ++ a ∷ []
  turned a xs = reverse-append (a ∷ []) xs

  get_turned : (ys : List X) (p i : ℕ) → p < length ys → i + p + 1 ≡ length ys → slice_get (reverse ys) i ≡ slice_get ys p
  get_turned [] p i within is = absurd (omega (arith, within))
  get_turned (a ∷ ys) zero i within is =
      let long = length-reverse ys in ap (λ l. slice_get l i) (turned a ys) ∙ get_last (reverse ys) a i (omega (arith, is, long))
  get_turned (a ∷ ys) (suc p) i within is =
      let long = length-reverse ys in
      ap (λ l. slice_get l i) (turned a ys) ∙ get_front (reverse ys) a i (omega (arith, within, is, long)) ∙ get_turned ys p i (omega (arith, within)) (omega (arith, is))

  set_turned : (ys : List X) (p i : ℕ) (y : X) → p < length ys → i + p + 1 ≡ length ys → set (reverse ys) i y ≡ reverse (set ys p y)
  set_turned [] p i y within is = absurd (omega (arith, within))
  set_turned (a ∷ ys) zero i y within is =
      let long = length-reverse ys in ap (λ l. set l i y) (turned a ys) ∙ set_last (reverse ys) a y i (omega (arith, is, long)) ∙ sym (turned y ys)
  set_turned (a ∷ ys) (suc p) i y within is =
      let long = length-reverse ys in
      ap (λ l. set l i y) (turned a ys) ∙ set_front (reverse ys) a y i (omega (arith, within, is, long))
      ∙ ap (λ l. l ++ a ∷ []) (set_turned ys p i y (omega (arith, within)) (omega (arith, is))) ∙ sym (turned a (set ys p y))

  -- the same of a stack
  pub get_stacked : (items : List X) (p i : ℕ) → p < length items → i + p + 1 ≡ length items → slice_get items i ≡ slice_get (reverse items) p
  get_stacked items p i within is =
      let long = length-reverse items in
      ap (λ l. slice_get l i) (sym (reverse-reverse items)) ∙ get_turned (reverse items) p i (omega (arith, within, long)) (omega (arith, is, long))

  pub set_stacked : (items : List X) (p i : ℕ) (y : X) → p < length items → i + p + 1 ≡ length items → reverse (set items i y) ≡ set (reverse items) p y
  set_stacked items p i y within is =
      let long = length-reverse items in
      ap (λ l. reverse (set l i y)) (sym (reverse-reverse items)) ∙ ap reverse (set_turned (reverse items) p i y (omega (arith, within, long)) (omega (arith, is, long))) ∙ reverse-reverse (set (reverse items) p y)

book_read : (helds : List (Held LockedHeap)) (p : ℕ) (x : Held LockedHeap) → slice_get helds p ≡ Some x → slice_get (books_of helds) p ≡ Some (value_of x).book
book_read [] p x is = absurd (cc)
book_read (h ∷ helds) zero x is = ap (λ (y : Held LockedHeap). Some (value_of y).book) (same_Some h x is)
book_read (h ∷ helds) (suc p) x is = book_read helds p x is

book_set : (helds : List (Held LockedHeap)) (p : ℕ) (y : Held LockedHeap) → books_of (set helds p y) ≡ set (books_of helds) p (value_of y).book
book_set [] p y = refl
book_set (h ∷ helds) zero y = refl
book_set (h ∷ helds) (suc p) y = ap (λ l. (value_of h).book ∷ l) (book_set helds p y)

held_set : (helds : List (Held LockedHeap)) (p : ℕ) (x y : Held LockedHeap) → slice_get helds p ≡ Some x → IsHeldOn x y → AreHeldOn helds (set helds p y)
held_set [] p x y is on = absurd (cc)
held_set (h ∷ helds) zero x y is on = (subst (λ k. IsHeldOn k y) (sym (same_Some h x is)) on, held_on_itself helds)
held_set (h ∷ helds) (suc p) x y is on = (record { lock = refl; was_given = refl; kept = kept_itself (value_of h); turns = refl }, held_set helds p x y is on)

pub as_many : (items : List (Held LockedHeap)) → length (books_of (reverse items)) ≡ length items
as_many items = length-map (reverse items) (λ (held : Held LockedHeap). (value_of held).book) ∙ length-reverse items

-- what is held at a place of the stack, and what comes of a change there
module _ (items : List (Held LockedHeap)) (place n : ℕ) (x : Held LockedHeap) (many : n ≡ length items) (within : place < length items) (is : x ≡ get_or items (n - 1 - place) x) where
  index_is : n - 1 - place + place + 1 ≡ length items
  index_is = omega (arith, many, within)

  pub held_stands : slice_get (reverse items) place ≡ Some x
  held_stands = sym (get_stacked items place (n - 1 - place) within index_is) ∙ slice_get_read items (length items) (n - 1 - place) x refl (omega (arith, many, within)) is

  pub book_stands : slice_get (books_of (reverse items)) place ≡ Some (value_of x).book
  book_stands = book_read (reverse items) place x held_stands

  pub books_changed : (y : Held LockedHeap) → books_of (reverse (set items (n - 1 - place) y)) ≡ set (books_of (reverse items)) place (value_of y).book
  books_changed y = ap books_of (set_stacked items place (n - 1 - place) y within index_is) ∙ book_set (reverse items) place y

  pub held_changed : (y : Held LockedHeap) → IsHeldOn x y → AreHeldOn (reverse items) (reverse (set items (n - 1 - place) y))
  held_changed y on = subst (λ l. AreHeldOn (reverse items) l) (sym (set_stacked items place (n - 1 - place) y within index_is)) (held_set (reverse items) place x y held_stands on)
