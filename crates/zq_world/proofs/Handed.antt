-- An operation that is handed to a site: what its books are then, and what is answered.

use Rattle.std.proofs.Common.{List, None, Some, ◌+◌, arith, false, le-leb, leb-true, refl, subst, sym, true, ℕ, ◌∷◌, ◌≡◌, ◌<◌}
use Rattle.std.proofs.lemmas.Bool.{cond-false, cond-true, false_from_ne_true, or_left, or_right}
use Rattle.std.specs.Prelude.{nat_le, slice_get, slice_set, ◌||◌}
use Rattle.zq_model.specs.Books.{Book, Took, recorded}
use Rattle.zq_journal.specs.Books.{book_when}
use Rattle.zq_model.specs.Operation.{Operation}
use Rattle.zq_model.specs.Rule.{Rule}
use Rattle.zq_model.specs.Sets.{Early, IsClosed, IsWorld, Known, New, Taken}
use Rattle.zq_semantics.specs.Run.{LAST_COUNT}
use Rattle.zq_posheap.proofs.Lists.{set_again}
use Rattle.zq_semantics.proofs.BooksOf.{books_taken}
use Rattle.zq_semantics.proofs.SiteBooks.{stamps_are}
use Rattle.zq_semantics.specs.Books.{AreBooksOf, greatest_stamp}
use Rattle.zq_semantics.specs.Events.{after_taken, answer_taken, is_blocked, judged}
use Rattle.zq_semantics.specs.State.{State, counted, greatest, is_worn, next_stamp}

not_above : (n : ℕ) → n < LAST_COUNT → nat_le LAST_COUNT n ≡ false
not_above n below = false_from_ne_true (nat_le LAST_COUNT n) (λ e. let above = leb-true LAST_COUNT n e in omega (arith, above, below))

module _ (rule : Rule) (K : ℕ) (st : State) (site : ℕ) (books : List Book) (are : AreBooksOf rule K st site books) where
  -- a stamp of the site is at its last value where the greatest of its books is
  pub worn_if : greatest_stamp books ≡ LAST_COUNT → is_worn K st site ≡ true
  worn_if last = let same = stamps_are rule K st site books are in le-leb LAST_COUNT (greatest K (st.stamps site)) (omega (arith, same, last))

  pub unworn_if : greatest_stamp books < LAST_COUNT → is_worn K st site ≡ false
  unworn_if below = let same = stamps_are rule K st site books are in not_above (greatest K (st.stamps site)) (omega (arith, same, below))

  -- and so its next stamp is that of its books
  pub stamp_next : (stamp : ℕ) → stamp ≡ greatest_stamp books → next_stamp K st site ≡ stamp + 1
  stamp_next stamp is = let same = stamps_are rule K st site books are in omega (arith, same, is)

  pub blocked_stamp : greatest_stamp books ≡ LAST_COUNT → (heap : ℕ) → is_blocked K st site heap ≡ true
  blocked_stamp last heap = or_left _ _ (worn_if last)

  module _ (heap : ℕ) (b : Book) (found : slice_get books heap ≡ Some b) where
    pub blocked_count : b.count ≡ LAST_COUNT → is_blocked K st site heap ≡ true
    blocked_count last = let count = (are.each heap b found).count in or_right _ _ (le-leb LAST_COUNT (st.counts site heap) (omega (arith, count, last)))

    pub unblocked : greatest_stamp books < LAST_COUNT → b.count < LAST_COUNT → is_blocked K st site heap ≡ false
    unblocked below few =
        let count = (are.each heap b found).count in
        let unfull = not_above (st.counts site heap) (omega (arith, count, few)) in
        (λ i. unworn_if below i || unfull i)

  module _ (o : Operation) (taken : Taken) where
    -- where a stamp is at its last value nothing is taken, whatever is judged
    pub worn_taken : greatest_stamp books ≡ LAST_COUNT → (after_taken K st site o taken ≡ st) × (answer_taken K st site o taken ≡ None)
    worn_taken last = elim taken as (λ t. (after_taken K st site o t ≡ st) × (answer_taken K st site o t ≡ None)) [
      | New ↦ (
        cond-true (is_blocked K st site o.heap) st _ (blocked_stamp last o.heap),
        cond-true (is_blocked K st site o.heap) None (Some New) (blocked_stamp last o.heap),
      )
      | Known ↦ (refl, cond-true (is_worn K st site) None (Some Known) (worn_if last))
      | Early ↦ (refl, cond-true (is_worn K st site) None (Some Early) (worn_if last))
    ]

  -- what is new is recorded, and what is known or early changes nothing
  pub handed_to : (o : Operation) (b : Book) (stamp : ℕ) (judging : Taken) → IsWorld K (o ∷ st.sets site) → IsClosed (st.sets site) → slice_get books o.heap ≡ Some b → greatest_stamp books < LAST_COUNT →
      (judging ≡ New → b.count < LAST_COUNT) → stamp ≡ greatest_stamp books → judged st site o ≡ judging →
      AreBooksOf rule K (after_taken K st site o judging) site (slice_set books o.heap (book_when judging b (stamp + 1) o)) × (answer_taken K st site o judging ≡ Some judging)
  handed_to o b stamp New world closed found below few is judge =
      let free = unblocked o.heap b found below (few refl) in
      let later = counted st site o.heap (next_stamp K st site) st.made (o ∷ st.sets site) in (
        subst (λ s. AreBooksOf rule K s site (slice_set books o.heap (recorded b (stamp + 1) (Took o)))) (sym (cond-false (is_blocked K st site o.heap) st later free))
            (subst (λ n. AreBooksOf rule K later site (slice_set books o.heap (recorded b n (Took o)))) (stamp_next stamp is)
            (books_taken rule K st site books are (next_stamp K st site) o b world closed judge found)),
        cond-false (is_blocked K st site o.heap) None (Some New) free,
      )
  handed_to o b stamp Known world closed found below few is judge = (
    subst (λ xs. AreBooksOf rule K st site xs) (sym (set_again books o.heap b found)) are,
    cond-false (is_worn K st site) None (Some Known) (unworn_if below),
  )
  handed_to o b stamp Early world closed found below few is judge = (
    subst (λ xs. AreBooksOf rule K st site xs) (sym (set_again books o.heap b found)) are,
    cond-false (is_worn K st site) None (Some Early) (unworn_if below),
  )

  -- what is new where the count is at its last value is not taken
  pub handed_not : (o : Operation) (b : Book) → slice_get books o.heap ≡ Some b → b.count ≡ LAST_COUNT → (after_taken K st site o New ≡ st) × (answer_taken K st site o New ≡ None)
  handed_not o b found last =
      let blocked = blocked_count o.heap b found last in (cond-true (is_blocked K st site o.heap) st _ blocked, cond-true (is_blocked K st site o.heap) None (Some New) blocked)
