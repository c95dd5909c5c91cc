-- The books of a site under a record or a merge.

use Rattle.std.proofs.Common.{List, Some, [], ap, ap₂, eq-eqb, eqb-true, false, inl, inr, length, refl, subst, suc, sym, true, true≢false, zero, ℕ, ◌++◌, ◌+◌, ◌==◌, ◌∙◌, ◌∷◌, ◌≡◌}
use Rattle.std.proofs.lemmas.Bool.{cond-false, cond-true}
use Rattle.std.proofs.lemmas.Option.{none-some, same_Some}
use Rattle.std.specs.Prelude.{slice_get, slice_set}
use Rattle.zq_model.specs.Books.{Book, Took, merged, recorded}
use Rattle.zq_model.proofs.JoinImages.{join-union}
use Rattle.zq_model.proofs.Membership.{in_left, in_right, in_union}
use Rattle.zq_model.proofs.OfHeaps.{image_elsewhere, in_heap_closed, in_heap_image, of_heap}
use Rattle.zq_model.proofs.StepImages.{image_of-step}
use Rattle.zq_model.proofs.Taken.{taking_new}
use Rattle.zq_model.proofs.Worlds.{vector_is, world_part}
use Rattle.zq_model.specs.Image.{Image, image_after, image_of, join}
use Rattle.zq_model.specs.Operation.{Operation}
use Rattle.zq_model.specs.Rule.{Rule}
use Rattle.zq_model.specs.Sets.{IsClosed, IsIn, IsNew, IsWorld, New, in_heap, taken_of, vector_of}
use Rattle.zq_semantics.specs.Books.{AreBooksOf, IsBookOf}
use Rattle.zq_semantics.specs.State.{Numbers, State, counted, with_at, with_number}

-- ---- values at places

pub with_at_here : {X : Type 0} (f : ℕ → X) (i : ℕ) (x : X) → with_at f i x i ≡ x
with_at_here f i x = cond-true (i == i) x (f i) (eq-eqb i i refl)

pub with_at_there : {X : Type 0} (f : ℕ → X) (i : ℕ) (x : X) (j : ℕ) → (j == i) ≡ false → with_at f i x j ≡ f j
with_at_there f i x j apart = cond-false (j == i) x (f j) apart

number_here : (f : Numbers) (s h n : ℕ) → with_number f s h n s h ≡ n
number_here f s h n = ap (λ (g : ℕ → ℕ). g h) (with_at_here f s (with_at (f s) h n)) ∙ with_at_here (f s) h n

number_there : (f : Numbers) (s h n j : ℕ) → (j == h) ≡ false → with_number f s h n s j ≡ f s j
number_there f s h n j apart = ap (λ (g : ℕ → ℕ). g j) (with_at_here f s (with_at (f s) h n)) ∙ with_at_there (f s) h n j apart

-- ---- a book of which a number or the image changes

module _ (rule : Rule) (K : ℕ) (st : State) (site heap stamp : ℕ) (made S : List Operation) where
  abbrev after : State
  after = counted st site heap stamp made S

  -- the book of the heap
  pub book_here : (h : ℕ) (b : Book) (state : Image) → IsBookOf rule K st site h b → h ≡ heap → state ≡ image_of S heap → (new : Book) → new.heap ≡ b.heap → new.heaps ≡ b.heaps →
      new.rule ≡ b.rule → new.state ≡ state → new.stamp ≡ stamp → new.count ≡ b.count + 1 → IsBookOf rule K after site h new
  book_here h b state is here image new heaped many ruled stated stamped number = record {
    heap = heaped ∙ is.heap;
    heaps = many ∙ is.heaps;
    ruled = ruled ∙ is.ruled;
    state = stated ∙ image ∙ ap (image_of S) (sym here) ∙ ap (λ (T : List Operation). image_of T h) (sym (with_at_here st.sets site S));
    stamp = stamped ∙ sym (number_here st.stamps site heap stamp) ∙ ap (with_number st.stamps site heap stamp site) (sym here);
    count = number ∙ ap (λ n. n + 1) (is.count ∙ ap (st.counts site) here) ∙ sym (number_here st.counts site heap (st.counts site heap + 1)) ∙ ap (with_number st.counts site heap (st.counts site heap + 1) site) (sym here);
  }

  -- the books of other heaps
  pub book_there : (h : ℕ) (b : Book) → IsBookOf rule K st site h b → (h == heap) ≡ false → image_of (st.sets site) h ≡ image_of S h → IsBookOf rule K after site h b
  book_there h b is apart same = record {
    heap = is.heap;
    heaps = is.heaps;
    ruled = is.ruled;
    state = is.state ∙ same ∙ ap (λ (T : List Operation). image_of T h) (sym (with_at_here st.sets site S));
    stamp = is.stamp ∙ sym (number_there st.stamps site heap stamp h apart);
    count = is.count ∙ sym (number_there st.counts site heap (st.counts site heap + 1) h apart);
  }

  -- the books of other sites
  pub books_of_others : (other : ℕ) (books : List Book) → (other == site) ≡ false → AreBooksOf rule K st other books → AreBooksOf rule K after other books
  books_of_others other books apart are = record {
    number = are.number;
    each = λ h b at.
        let is = are.each h b at in
        record {
          heap = is.heap;
          heaps = is.heaps;
          ruled = is.ruled;
          state = is.state ∙ ap (λ (T : List Operation). image_of T h) (sym (with_at_there st.sets site S other apart));
          stamp = is.stamp ∙ ap (λ (f : ℕ → ℕ). f h) (sym (with_at_there st.stamps site (with_at (st.stamps site) heap stamp) other apart));
          count = is.count ∙ ap (λ (f : ℕ → ℕ). f h) (sym (with_at_there st.counts site (with_at (st.counts site) heap (st.counts site heap + 1)) other apart));
        };
  }

-- a set with more of one heap has the image that it had in others
pub same_elsewhere : (K : ℕ) (S T : List Operation) (heap h : ℕ) → IsWorld K T → (h == heap) ≡ false → ((o : Operation) → IsIn o S → IsIn o T) →
    ((o : Operation) → IsIn o T → (o.heap ≡ heap → ⊥) → IsIn o S) → image_of S h ≡ image_of T h
same_elsewhere K S T heap h world apart more rest =
    image_elsewhere K S T heap h world apart more (λ o i there. rest o i (λ e. true≢false (sym (eq-eqb h heap (sym there ∙ e)) ∙ apart)))

-- ---- one place of a list

slice_get-set_here : {X : Type 0} (xs : List X) (i : ℕ) (x y : X) → slice_get (slice_set xs i x) i ≡ Some y → y ≡ x
slice_get-set_here [] i x y e = absurd (none-some y e)
slice_get-set_here (z ∷ xs) zero x y e = sym (same_Some x y e)
slice_get-set_here (z ∷ xs) (suc i) x y e = slice_get-set_here xs i x y e

slice_get-set_there : {X : Type 0} (xs : List X) (i : ℕ) (x : X) (j : ℕ) → (j ≡ i → ⊥) → slice_get (slice_set xs i x) j ≡ slice_get xs j
slice_get-set_there [] i x j apart = refl
slice_get-set_there (z ∷ xs) zero x zero apart = absurd (apart refl)
slice_get-set_there (z ∷ xs) zero x (suc j) apart = refl
slice_get-set_there (z ∷ xs) (suc i) x zero apart = refl
slice_get-set_there (z ∷ xs) (suc i) x (suc j) apart = slice_get-set_there xs i x j (λ e. apart (ap suc e))

length-set : {X : Type 0} (xs : List X) (i : ℕ) (x : X) → length (slice_set xs i x) ≡ length xs
length-set [] i x = refl
length-set (z ∷ xs) zero x = refl
length-set (z ∷ xs) (suc i) x = ap suc (length-set xs i x)

module _ (rule : Rule) (K : ℕ) (st : State) (site : ℕ) (books : List Book) (are : AreBooksOf rule K st site books) where
  -- the books where that of one heap is new
  books_with : (heap stamp : ℕ) (made S : List Operation) (old new : Book) → slice_get books heap ≡ Some old → IsBookOf rule K (counted st site heap stamp made S) site heap new →
      ((h : ℕ) → (h == heap) ≡ false → image_of (st.sets site) h ≡ image_of S h) → AreBooksOf rule K (counted st site heap stamp made S) site (slice_set books heap new)
  books_with heap stamp made S old new found is same = record {
    number = length-set books heap new ∙ are.number;
    each = λ h b at.
        elim (h == heap) as (λ c. (h == heap) ≡ c → IsBookOf rule K (counted st site heap stamp made S) site h b) [
          | true ↦ λ e.
              let here : h ≡ heap = eqb-true h heap e in
              let its : b ≡ new = slice_get-set_here books heap new b (ap (slice_get (slice_set books heap new)) (sym here) ∙ at) in
              subst (λ c. IsBookOf rule K (counted st site heap stamp made S) site h c) (sym its)
              (subst (λ k. IsBookOf rule K (counted st site heap stamp made S) site k new) (sym here) is)
          | false ↦ λ apart.
              let old_one = sym (slice_get-set_there books heap new h (λ e. true≢false (sym (eq-eqb h heap e) ∙ apart))) ∙ at in
              book_there rule K st site heap stamp made S h b (are.each h b old_one) apart (same h apart)
        ] refl;
  }

  -- an operation that is new to the site
  pub books_taken : (stamp : ℕ) (o : Operation) (b : Book) → IsWorld K (o ∷ st.sets site) → IsClosed (st.sets site) → taken_of (vector_of (st.sets site) o.heap) o ≡ New →
      slice_get books o.heap ≡ Some b → AreBooksOf rule K (counted st site o.heap stamp st.made (o ∷ st.sets site)) site (slice_set books o.heap (recorded b stamp (Took o)))
  books_taken stamp o b world closed is found =
      let S = st.sets site in
      let inner : IsWorld K S = world_part K S (o ∷ S) (λ p i. inr i) world in
      let new : IsNew S o = taking_new K S o (vector_of S o.heap) world closed (vector_is K S o.heap inner) is in
      let its = are.each o.heap b found in
      books_with o.heap stamp st.made (o ∷ S) b (recorded b stamp (Took o)) found
      (book_here rule K st site o.heap stamp st.made (o ∷ S) o.heap b (image_after o b.state) its refl
      (ap (image_after o) its.state ∙ sym (image_of-step K S o world closed new)) (recorded b stamp (Took o)) refl refl refl refl refl refl)
      (λ h apart. same_elsewhere K S (o ∷ S) o.heap h world apart (λ p i. inr i) (λ p i away. elim i [
        | inl e ↦ absurd (away (sym (ap (λ (x : Operation). x.heap) e)))
        | inr there ↦ there
      ]))

  -- the image of what a site had of the heap
  pub books_merged : (heap stamp : ℕ) (T : List Operation) (b : Book) → IsWorld K (st.sets site ++ T) → IsClosed (st.sets site) → IsClosed T → slice_get books heap ≡ Some b →
      AreBooksOf rule K (counted st site heap stamp st.made (st.sets site ++ in_heap heap T)) site (slice_set books heap (merged b stamp (image_of T heap)))
  books_merged heap stamp T b world closed shut found =
      let S = st.sets site in
      let its = are.each heap b found in
      let inside : (o : Operation) → IsIn o (S ++ in_heap heap T) → IsIn o (S ++ T) = λ o i.
      elim (in_union o S (in_heap heap T) i) as (λ _. IsIn o (S ++ T)) [ inl j ↦ in_left o S T j | inr j ↦ in_right o S T (of_heap heap T o j).0 ] in
      let narrow : IsWorld K (S ++ in_heap heap T) = world_part K (S ++ in_heap heap T) (S ++ T) inside world in
      let theirs : IsWorld K T = world_part K T (S ++ T) (λ o i. in_right o S T i) world in
      let image : join b.state (image_of T heap) ≡ image_of (S ++ in_heap heap T) heap
      = ap₂ join its.state (in_heap_image K heap T theirs) ∙ join-union K S (in_heap heap T) heap narrow closed (in_heap_closed heap T shut) in
      books_with heap stamp st.made (S ++ in_heap heap T) b (merged b stamp (image_of T heap)) found
      (book_here rule K st site heap stamp st.made (S ++ in_heap heap T) heap b (join b.state (image_of T heap)) its refl image (merged b stamp (image_of T heap)) refl refl refl refl refl refl)
      (λ h apart. same_elsewhere K S (S ++ in_heap heap T) heap h narrow apart (λ o i. in_left o S (in_heap heap T) i) (λ o i away. elim (in_union o S (in_heap heap T) i) [
        | inl j ↦ j
        | inr j ↦ absurd (away (of_heap heap T o j).1)
      ]))
