-- Sums over a list after one element was replaced.
use Rattle.std.proofs.Common.{◌≡◌, ℕ, zero, suc, ◌+◌, List, [], ◌∷◌, ◌++◌, set, refl, sym, ap, ◌∙◌, arith}
use Rattle.std.specs.Prelude.{sum_by}
use Rattle.std.proofs.lemmas.List.Sums.{sum_by-cons, sum_by_push}
use mathlib.Core.Option.{some, some-injective, some-ne-none}
use lib.ListN.{get_elem?}

module _ {A : Type 0} (f : A → ℕ) where
  -- one element gives way to another
  pub sum_by-replace : (xs : List A) (i : ℕ) (v w : A) → get_elem? xs i ≡ some v → sum_by f (set xs i w) + f v ≡ sum_by f xs + f w
  sum_by-replace [] i v w here = absurd (some-ne-none v (sym here))
  sum_by-replace (x ∷ xs) zero v w here =
      let same : f x ≡ f v = ap f (some-injective x v here) in
      let before : sum_by f (x ∷ xs) ≡ f x + sum_by f xs = sum_by-cons f x xs in
      let after : sum_by f (w ∷ xs) ≡ f w + sum_by f xs = sum_by-cons f w xs in
      ap (λ n. n + f v) after ∙ omega arith ∙ ap (λ n. n + f w) (sym before)
  sum_by-replace (x ∷ xs) (suc i) v w here =
      let rest = sum_by-replace xs i v w here in
      ap (λ n. n + f v) (sum_by-cons f x (set xs i w)) ∙ omega arith ∙ ap (λ n. n + f w) (sym (sum_by-cons f x xs))

  -- one element gives way to two
  pub sum_by-split : (xs : List A) (i : ℕ) (v left right : A) → get_elem? xs i ≡ some v
      → sum_by f (set xs i left ++ right ∷ []) + f v ≡ sum_by f xs + (f left + f right)
  sum_by-split xs i v left right here =
      let one = sum_by-replace xs i v left here in
      let two : sum_by f (set xs i left ++ right ∷ []) ≡ sum_by f (set xs i left) + f right = sum_by_push f (set xs i left) right in
      ap (λ n. n + f v) two ∙ omega arith

  -- two elements give way to two
  pub sum_by-join : (xs : List A) (i j : ℕ) (v w both left : A) → get_elem? xs i ≡ some v → get_elem? (set xs i both) j ≡ some w
      → sum_by f (set (set xs i both) j left) + (f v + f w) ≡ sum_by f xs + (f both + f left)
  sum_by-join xs i j v w both left here there =
      let one = sum_by-replace xs i v both here in
      let two = sum_by-replace (set xs i both) j w left there in
      omega arith

-- where one sum is nothing, so is another that is nothing at the same elements
pub sum_by-nothing : {A : Type 0} (f g : A → ℕ) → ((x : A) → f x ≡ 0 → g x ≡ 0) → (xs : List A) → sum_by f xs ≡ 0 → sum_by g xs ≡ 0
sum_by-nothing f g each [] none = refl
sum_by-nothing f g each (x ∷ xs) none =
    let all : f x + sum_by f xs ≡ 0 = sym (sum_by-cons f x xs) ∙ none in
    let here : f x ≡ 0 = omega arith in
    let there : sum_by f xs ≡ 0 = omega arith in
    let first : g x ≡ 0 = each x here in
    let others : sum_by g xs ≡ 0 = sum_by-nothing f g each xs there in
    sum_by-cons g x xs ∙ omega arith
