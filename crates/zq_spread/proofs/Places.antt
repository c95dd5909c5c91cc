-- What stands in a list with one more at its end, and in lists whose elements change one by one.

use Rattle.std.proofs.Common.{ap, arith, inl, inr, subst, sym, ◌∙◌}
use Rattle.std.proofs.lemmas.Option.{same_Some, slice_get_within}
use Rattle.std.specs.List.{AllZip}
use Rattle.std.specs.Prelude.{List, Some, [], length, refl, slice_get, slice_set, suc, zero, ℕ, ◌++◌, ◌+◌, ◌≡◌, ◌≤◌, ◌⊎◌, ◌∷◌}

module _ {X : Type 0} where
  -- it stood there before, or it is the one at the end
  pub behind : (xs : List X) (x y : X) (i : ℕ) → slice_get (xs ++ x ∷ []) i ≡ Some y → (slice_get xs i ≡ Some y) ⊎ ((i ≡ length xs) × (x ≡ y))
  behind [] x y zero e = inr (refl, same_Some x y e)
  behind [] x y (suc i) e = absurd (let within = slice_get_within [] i y e in omega (arith, within))
  behind (a ∷ rest) x y zero e = inl e
  behind (a ∷ rest) x y (suc i) e = elim (behind rest x y i e) [ inl there ↦ inl there | inr last ↦ inr (ap suc last.0, last.1) ]

  -- what comes next after those that are gone
  pub next_is : (xs rest : List X) (x : X) → slice_get (xs ++ x ∷ rest) (length xs) ≡ Some x
  next_is [] rest x = refl
  next_is (a ∷ front) rest x = next_is front rest x

  pub length_two : (xs ys : List X) → length (xs ++ ys) ≡ length xs + length ys
  length_two [] ys = omega arith
  length_two (a ∷ front) ys = let rest = length_two front ys in omega (arith, rest)

  pub nothing_left : (xs : List X) → length xs ≡ 0 → xs ≡ []
  nothing_left [] none = refl
  nothing_left (a ∷ front) none = absurd (omega (arith, none))

  module _ (R : X → X → Type 0) where
    pub zip_at : (xs ys : List X) (i : ℕ) (y : X) → AllZip R xs ys → slice_get ys i ≡ Some y → (x : X) × (slice_get xs i ≡ Some x) × R x y
    zip_at [] [] i y all e = absurd (let within = slice_get_within [] i y e in omega (arith, within))
    zip_at [] (b ∷ bs) i y all e = absurd all
    zip_at (a ∷ rest) [] i y all e = absurd all
    zip_at (a ∷ rest) (b ∷ bs) zero y all e = (a, refl, subst (R a) (same_Some b y e) all.0)
    zip_at (a ∷ rest) (b ∷ bs) (suc i) y all e = zip_at rest bs i y all.1 e

    pub zip_length : (xs ys : List X) → AllZip R xs ys → length ys ≡ length xs
    zip_length [] [] all = refl
    zip_length [] (b ∷ bs) all = absurd all
    zip_length (a ∷ rest) [] all = absurd all
    zip_length (a ∷ rest) (b ∷ bs) all = let rest = zip_length rest bs all.1 in omega (arith, rest)

    -- the first elements have changed, so many of them, and the others not
    unfoldable pub AllSoFar : ℕ → List X → List X → Type 0
    AllSoFar i [] [] = Unit {0}
    AllSoFar i [] (y ∷ ys) = ⊥
    AllSoFar i (x ∷ xs) [] = ⊥
    AllSoFar zero (x ∷ xs) (y ∷ ys) = x ∷ xs ≡ y ∷ ys
    AllSoFar (suc i) (x ∷ xs) (y ∷ ys) = R x y × AllSoFar i xs ys

    pub none_changed : (xs : List X) → AllSoFar 0 xs xs
    unfolding AllSoFar
    none_changed [] = tt
    none_changed (x ∷ xs) = refl

    same_lists : (xs ys : List X) → xs ≡ ys → AllSoFar 0 xs ys
    same_lists xs ys e = subst (AllSoFar 0 xs) e (none_changed xs)

    -- the next one is rest it was
    pub not_yet : (i : ℕ) (xs ys : List X) → AllSoFar i xs ys → slice_get ys i ≡ slice_get xs i
    unfolding AllSoFar
    not_yet i [] [] so = refl
    not_yet i [] (y ∷ ys) so = absurd so
    not_yet i (x ∷ xs) [] so = absurd so
    not_yet zero (x ∷ xs) (y ∷ ys) so = ap (λ l. slice_get l 0) (sym so)
    not_yet (suc i) (x ∷ xs) (y ∷ ys) so = not_yet i xs ys so.1

    pub one_more : (i : ℕ) (xs ys : List X) (x y : X) → AllSoFar i xs ys → slice_get xs i ≡ Some x → R x y → AllSoFar (suc i) xs (slice_set ys i y)
    unfolding AllSoFar
    one_more i [] [] x y so at is = absurd (let within = slice_get_within [] i x at in omega (arith, within))
    one_more i [] (b ∷ bs) x y so at is = absurd so
    one_more i (a ∷ rest) [] x y so at is = absurd so
    one_more zero (a ∷ rest) (b ∷ bs) x y so at is = (subst (λ o. R o y) (sym (same_Some a x at)) is, same_lists rest bs (ap tail so))
      where
        tail : List X → List X
        tail [] = []
        tail (z ∷ zs) = zs
    one_more (suc i) (a ∷ rest) (b ∷ bs) x y so at is = (so.0, one_more i rest bs x y so.1 at is)

    pub all_changed : (i : ℕ) (xs ys : List X) → length ys ≤ i → AllSoFar i xs ys → AllZip R xs ys
    unfolding AllSoFar
    all_changed i [] [] long so = tt
    all_changed i [] (y ∷ ys) long so = absurd so
    all_changed i (x ∷ xs) [] long so = absurd so
    all_changed zero (x ∷ xs) (y ∷ ys) long so = absurd (omega (arith, long))
    all_changed (suc i) (x ∷ xs) (y ∷ ys) long so = (so.0, all_changed i xs ys (omega (arith, long)) so.1)

    pub one_more_at : (i : ℕ) (xs ys : List X) (x y : X) → AllSoFar i xs ys → slice_get ys i ≡ Some x → R x y → AllSoFar (i + 1) xs (slice_set ys i y)
    one_more_at i xs ys x y so at is =
        let next : suc i ≡ i + 1 = omega arith in
        subst (λ k. AllSoFar k xs (slice_set ys i y)) next (one_more i xs ys x y so (sym (not_yet i xs ys so) ∙ at) is)
