-- How many items pass a test that no item passes after one that fails it.
use Rattle.std.proofs.Common.{◌≡◌, ℕ, ◌<◌, ◌≤◌, Bool, true, false, cond, List, [], ◌∷◌, length, get_or, suc, zero, refl, sym, ap, arith}
use Rattle.std.specs.List.{count_by}
use Rattle.std.specs.List.Sorted.{IsPartitionedBy, IsPartitionPoint}
use Rattle.std.proofs.lemmas.List.Sums.{sum_by-cons}

not_true : (b : Bool) → (b ≡ true → ⊥) → b ≡ false
not_true true h = absurd (h refl)
not_true false h = refl

module _ {X : Type 0} (p : X → Bool) where
  -- the items below a place pass, and no others
  pub count_at : (xs : List X) (i : ℕ) → i ≤ length xs → ((k : ℕ) (d : X) → k < i → p (get_or xs k d) ≡ true) → ((k : ℕ) (d : X) → i ≤ k → k < length xs → p (get_or xs k d) ≡ false) → count_by p xs ≡ i
  count_at [] i h pass fail = omega arith
  count_at (x ∷ xs) zero h pass fail =
      let e : cond {A = ℕ} (p x) 1 0 ≡ 0 = ap (λ b. cond b 1 0) (fail 0 x (omega arith) (omega arith)) in
      let n = sum_by-cons (λ y. cond (p y) 1 0) x xs in
      let r : count_by p xs ≡ 0 = count_at xs 0 (omega arith) (λ k d b. absurd (omega arith)) (λ k d a b. fail (suc k) d (omega arith) (omega arith)) in
      omega (arith, n, e, r)
  count_at (x ∷ xs) (suc i) h pass fail =
      let e : cond {A = ℕ} (p x) 1 0 ≡ 1 = ap (λ b. cond b 1 0) (pass 0 x (omega arith)) in
      let n = sum_by-cons (λ y. cond (p y) 1 0) x xs in
      let r : count_by p xs ≡ i = count_at xs i (omega arith) (λ k d b. pass (suc k) d (omega arith)) (λ k d a b. fail (suc k) d (omega arith) (omega arith)) in
      omega (arith, n, e, r)

  -- they are as many as there are before the place where they end
  pub count_at_point : (xs : List X) (i : ℕ) → i ≤ length xs → IsPartitionPoint (λ y. p y ≡ true) (λ y. p y ≡ false) xs i → i ≡ count_by p xs
  count_at_point xs i h q = sym (count_at xs i h (λ k d w. q.0 k d (omega arith) w) (λ k d w z. q.1 k d w z))

  first_is : (xs : List X) (c d : X) → 0 < length xs → get_or xs 0 c ≡ get_or xs 0 d
  first_is [] c d h = absurd (omega arith)
  first_is (x ∷ xs) c d h = refl

  -- where the first fails, all do
  pub none_after : (xs : List X) (d : X) → IsPartitionedBy p xs → p (get_or xs 0 d) ≡ false → 0 < length xs → count_by p xs ≡ 0
  none_after xs d h e l = count_at xs 0 (omega arith) (λ k d b. absurd (omega arith)) (λ k c a b. not_true _ (λ t. absurd (cc (h 0 k c (omega arith) b t, e, first_is xs c d l))))
