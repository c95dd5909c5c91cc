-- What a heap keeps where one element is out of place, and moves down to where no child goes before it.
use Rattle.std.specs.Prelude.{List, [], ◌++◌, ◌∷◌, ℕ, ◌+◌, ◌*◌, ◌<◌, ◌≤◌, ◌≡◌, ◌≢◌, Bool, true, false, length, get_or, slice_set, swap}
use Rattle.std.proofs.Common.{sym, ap, ◌∙◌, arith, inl, inr, true≢false}
use Rattle.std.proofs.Permutation.{swap_places, which}
use Rattle.std.proofs.lemmas.List.{get_or-set_other, get_or_append_left}
use Rattle.std.proofs.HeapSift.{either_child, ranks}
use Rattle.std.specs.BinaryHeap.{IsHeap, lt_by_cmp}
use Rattle.std.specs.BinaryHeap.Sift.{ComparesAt, IsGreaterChild, IsHeapWithHole, SiftsUp}
use Rattle.std.specs.Cmp.{IsTotalOrder}
use Rattle.std.specs.Slice.Heapsort.{IsNotBelowChildren}
use Rattle.std.specs.declared.cmp.Ordering.{Ordering}

module _ {X : Type 0} (R : X → X → Ordering) where
  by : (a b x y : X) → a ≡ x → b ≡ y → lt_by_cmp R x y ≡ false → lt_by_cmp R a b ≡ false
  by a b x y p q h = (λ k. lt_by_cmp R (p k) (q k)) ∙ h

  -- the first of its children in its place
  pub sinks : (ys zs : List X) (n j c : ℕ) → j * 2 + 1 ≤ c → c ≤ j * 2 + 2 → c < n → c < length ys → zs ≡ swap ys j c →
      IsGreaterChild R ys j c n → IsHeapWithHole (lt_by_cmp R) ys j n → IsHeapWithHole (lt_by_cmp R) zs c n
  unfolding IsGreaterChild
  sinks ys zs n j c from to within long is best h = (
    λ p k d a b f u v. let s = swap_places ys zs j c d (omega arith) long is in elim (which p j) as (λ _. lt_by_cmp R (get_or zs p d) (get_or zs k d) ≡ false) [
      | inl e ↦ by _ _ _ _ (ap (λ m. get_or zs m d) e ∙ s.0) (s.2 k (omega arith) v) (best k d (omega arith) (omega arith) f)
      | inr w ↦ elim (which k j) as (λ _. lt_by_cmp R (get_or zs p d) (get_or zs k d) ≡ false) [
        | inl e ↦ by _ _ _ _ (s.2 p w u) (ap (λ m. get_or zs m d) e ∙ s.0) (h.1 p c d (omega arith) (omega arith) from to within)
        | inr z ↦ by _ _ _ _ (s.2 p w u) (s.2 k z v) (h.0 p k d a b f w z)
      ]
    ],
    λ p k d a b f g i.
        let s = swap_places ys zs j c d (omega arith) long is in
        let e : p ≡ j = omega arith in
        by _ _ _ _ (ap (λ m. get_or zs m d) e ∙ s.0) (s.2 k (omega arith) (omega arith)) (h.0 c k d f g i (omega arith) (omega arith)),
  )

  -- a heap with another element at one place has a hole there
  pub hole_at_change : IsTotalOrder R → (xs : List X) (j n : ℕ) (x : X) → n ≡ length xs → IsHeap R xs → IsHeapWithHole (lt_by_cmp R) (slice_set xs j x) j n
  unfolding IsHeap
  hole_at_change o xs j n x long h =
      let other : (m : ℕ) (d : X) → m ≢ j → get_or (slice_set xs j x) m d ≡ get_or xs m d = λ m d apart. get_or-set_other xs j m x d apart in (
        λ p k d a b f u v. by _ _ _ _ (other p d u) (other k d v) (h p k d (omega arith) a b (omega arith)),
        λ p k d a b f g i. by _ _ _ _ (other p d (omega arith)) (other k d (omega arith))
            ((ranks o).chain _ _ _ (h p j d (omega arith) a b (omega arith)) (h j k d (omega arith) f g (omega arith))),
      )

  -- a heap with one more element has a hole there
  pub hole_at_end : (xs : List X) (n m : ℕ) (x : X) → n ≡ length xs → m ≡ n + 1 → IsHeap R xs → IsHeapWithHole (lt_by_cmp R) (xs ++ x ∷ []) n m
  unfolding IsHeap
  hole_at_end xs n m x long more h = (
    λ p k d a b f u v. by _ _ _ _ (get_or_append_left xs (x ∷ []) d p (omega arith)) (get_or_append_left xs (x ∷ []) d k (omega arith)) (h p k d (omega arith) a b (omega arith)),
    λ p k d a b f g i. absurd (omega arith),
  )

  -- a heap with its last element in another's place, and one place less, has a hole there
  pub hole_at_removal : IsTotalOrder R → (xs ys : List X) (j n : ℕ) → n + 1 ≡ length xs →
      ((m : ℕ) (d : X) → m ≢ j → m < n → get_or ys m d ≡ get_or xs m d) → IsHeap R xs → IsHeapWithHole (lt_by_cmp R) ys j n
  unfolding IsHeap
  hole_at_removal o xs ys j n long other h = (
    λ p k d a b f u v. by _ _ _ _ (other p d u (omega arith)) (other k d v f) (h p k d (omega arith) a b (omega arith)),
    λ p k d a b f g i. by _ _ _ _ (other p d (omega arith) (omega arith)) (other k d (omega arith) i)
        ((ranks o).chain _ _ _ (h p j d (omega arith) a b (omega arith)) (h j k d (omega arith) f g (omega arith))),
  )

  -- a hole past the end is none
  pub no_hole : (xs : List X) (j n : ℕ) → length xs ≡ n → n ≤ j → IsHeapWithHole (lt_by_cmp R) xs j n → IsHeap R xs
  unfolding IsHeap
  no_hole xs j n long past h = λ p k d lo a b f. h.0 p k d a b (omega arith) (omega arith) (omega arith)

  -- what moves up as far as it goes leaves a whole heap
  pub risen : (xs ys : List X) (j n : ℕ) → j < n → length ys ≡ n → SiftsUp R xs j ys →
      IsHeapWithHole (lt_by_cmp R) xs j n → IsNotBelowChildren (lt_by_cmp R) xs j j n → IsHeap R ys
  unfolding IsHeap SiftsUp
  risen xs ys j n within long rises hole over = λ p k d lo a b f. rises n within (hole, over) p k d lo a b (omega arith)

  -- the child that no other goes before
  pub first_child_is : IsTotalOrder R → (xs : List X) (j c n : ℕ) (r : Bool) → c ≡ j * 2 + 1 → ComparesAt R xs (c + 1) c r →
      (r ≡ false → IsGreaterChild R xs j (c + 1) n) × (r ≡ true → IsGreaterChild R xs j c n)
  first_child_is o xs j c n true e compares = (λ f. absurd (true≢false f), λ _. let same : c + 0 ≡ c = omega arith in rw same at (either_child R o xs j c n true e compares).1)
  first_child_is o xs j c n false e compares = (λ _. (either_child R o xs j c n false e compares).1, λ f. absurd (true≢false (sym f)))

  -- what no child goes before is not below its children
  pub rests : IsTotalOrder R → (xs : List X) (j c n : ℕ) → ((d : X) → lt_by_cmp R (get_or xs j d) (get_or xs c d) ≡ false) → IsGreaterChild R xs j c n →
      IsNotBelowChildren (lt_by_cmp R) xs j j n
  unfolding IsGreaterChild
  rests o xs j c n stops best = λ k d from to within. (ranks o).chain _ _ _ (stops d) (best k d from to within)

  -- the child that no other goes before is so where only its parent differs
  pub same_child : (xs ys : List X) (j c n : ℕ) → j * 2 + 1 ≤ c → ((k : ℕ) (d : X) → k ≢ j → get_or ys k d ≡ get_or xs k d) → IsGreaterChild R xs j c n → IsGreaterChild R ys j c n
  unfolding IsGreaterChild
  same_child xs ys j c n from same best = λ k d low high within. by _ _ _ _ (same c d (omega arith)) (same k d (omega arith)) (best k d low high within)
