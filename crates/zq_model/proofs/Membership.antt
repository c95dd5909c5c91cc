-- Being in a set: of a union, of a list's first elements, of a range, of what `find` answers, and of what `list_any` says.

use Rattle.std.proofs.Common.{Bool, List, None, Some, T, [], ap, arith, cond, drop, false, inl, inr, refl, subst, suc, sym, take, true, true≢false, zero, ℕ, ⊎_elim, ◌++◌, ◌+◌, ◌<◌, ◌∙◌, ◌∷◌, ◌≡◌, ◌≤◌, ◌⊎◌}
use Rattle.std.proofs.lemmas.Bool.{cases_eq, false_from_ne_true, or_cases, or_left, or_right}
use Rattle.std.proofs.lemmas.List.{take-append-drop}
use Rattle.std.proofs.lemmas.Option.{none-some, same_Some}
use Rattle.std.specs.List.{find, list_any, range_with_len}
use Rattle.zq_model.specs.Sets.{IsIn}

pub in_left : {X : Type 0} (x : X) (S T : List X) → IsIn x S → IsIn x (S ++ T)
in_left x [] T h = absurd h
in_left x (y ∷ S) T (inl e) = inl e
in_left x (y ∷ S) T (inr h) = inr (in_left x S T h)

pub in_right : {X : Type 0} (x : X) (S T : List X) → IsIn x T → IsIn x (S ++ T)
in_right x [] T h = h
in_right x (y ∷ S) T h = inr (in_right x S T h)

pub in_union : {X : Type 0} (x : X) (S T : List X) → IsIn x (S ++ T) → IsIn x S ⊎ IsIn x T
in_union x [] T h = inr h
in_union x (y ∷ S) T (inl e) = inl (inl e)
in_union x (y ∷ S) T (inr h) = ⊎_elim (λ a. inl (inr a)) (λ b. inr b) (in_union x S T h)

pub in_turned : {X : Type 0} (x : X) (S T : List X) → IsIn x (S ++ T) → IsIn x (T ++ S)
in_turned x S T h = ⊎_elim (in_right x T S) (in_left x T S) (in_union x S T h)

pub in_twice : {X : Type 0} (x : X) (S : List X) → IsIn x (S ++ S) → IsIn x S
in_twice x S h = ⊎_elim (λ a. a) (λ a. a) (in_union x S S h)

pub in_taken : {X : Type 0} (x : X) (k : ℕ) (xs : List X) → IsIn x (take k xs) → IsIn x xs
in_taken x k xs h = subst (IsIn x) (take-append-drop k xs) (in_left x (take k xs) (drop k xs) h)

pub in_range_with_len : (a n k : ℕ) → a ≤ k → k < a + n → IsIn k (range_with_len a n)
in_range_with_len a zero k low high = absurd (omega arith)
in_range_with_len a (suc n) k low high = elim (cases_eq a k) [
  | inl same ↦ inl same
  | inr other ↦ inr (in_range_with_len (a + 1) n k (omega arith) (omega arith))
]

-- a number is among some, or is not
pub in_or_not : (k : ℕ) (xs : List ℕ) → IsIn k xs ⊎ (IsIn k xs → ⊥)
in_or_not k [] = inr (λ none. none)
in_or_not k (x ∷ xs) = elim (cases_eq x k) [
  | inl same ↦ inl (inl same)
  | inr other ↦ elim (in_or_not k xs) [
    | inl there ↦ inl (inr there)
    | inr out ↦ inr (λ among. ⊎_elim other out among)
  ]
]

-- what `find` answers stands in the list and passes
pub find_some : {X : Type 0} (p : X → Bool) (S : List X) (x : X) → find p S ≡ Some x → IsIn x S × (p x ≡ true)
find_some p [] x e = absurd (none-some x e)
find_some p (y ∷ S) x e =
    elim (p y) as (λ b. p y ≡ b → cond b (Some y) (find p S) ≡ Some x → IsIn x (y ∷ S) × (p x ≡ true)) [
      | true ↦ λ passes found. let same : y ≡ x = same_Some y x found in (inl same, subst (λ z. p z ≡ true) same passes)
      | false ↦ λ fails found. let rest : IsIn x S × (p x ≡ true) = find_some p S x found in (inr rest.0, rest.1)
    ] refl e

-- where `find` answers nothing, nothing passes
pub find_none : {X : Type 0} (p : X → Bool) (S : List X) (x : X) → find p S ≡ None → IsIn x S → p x ≡ false
find_none p [] x e h = absurd h
find_none p (y ∷ S) x e h =
    elim (p y) as (λ b. p y ≡ b → cond b (Some y) (find p S) ≡ None → p x ≡ false) [
      | true ↦ λ passes found. absurd (none-some y (sym found))
      | false ↦ λ fails found. ⊎_elim (λ same. subst (λ z. p z ≡ false) same fails) (λ rest. find_none p S x found rest) h
    ] refl e

-- nothing is found where nothing passes
pub find_nothing : {X : Type 0} (p : X → Bool) (S : List X) → ((x : X) → IsIn x S → p x ≡ true → ⊥) → find p S ≡ None
find_nothing p S none =
    elim (find p S) as (λ r. find p S ≡ r → r ≡ None) [
      | None ↦ λ e. refl
      | Some x ↦ λ e. let found : IsIn x S × (p x ≡ true) = find_some p S x e in absurd (none x found.0 found.1)
    ] refl

-- the one that passes is found
pub find_only : {X : Type 0} (p : X → Bool) (S : List X) (x : X) → IsIn x S → p x ≡ true → ((y : X) → IsIn y S → p y ≡ true → y ≡ x) → find p S ≡ Some x
find_only p S x here passes one =
    elim (find p S) as (λ r. find p S ≡ r → r ≡ Some x) [
      | None ↦ λ e. absurd (true≢false (sym passes ∙ find_none p S x e here))
      | Some y ↦ λ e. let found : IsIn y S × (p y ≡ true) = find_some p S y e in ap (λ z. Some z) (one y found.0 found.1)
    ] refl

pub any_in : {X : Type 0} (p : X → Bool) (S : List X) (x : X) → IsIn x S → p x ≡ true → list_any p S ≡ true
any_in p [] x h e = absurd h
any_in p (y ∷ S) x (inl same) e = or_left (p y) (list_any p S) (subst (λ z. p z ≡ true) (sym same) e)
any_in p (y ∷ S) x (inr h) e = or_right (p y) (list_any p S) (any_in p S x h e)

pub any_some : {X : Type 0} (p : X → Bool) (S : List X) → list_any p S ≡ true → (x : X) × IsIn x S × (p x ≡ true)
any_some p [] e = absurd (true≢false (sym e))
any_some {X} p (y ∷ S) e =
    ⊎_elim (λ h. (y, inl refl, h)) (λ h. let rest : (x : X) × IsIn x S × (p x ≡ true) = any_some p S h in (rest.0, inr rest.1, rest.2))
    (or_cases (p y) (list_any p S) e)

pub any_none : {X : Type 0} (p : X → Bool) (S : List X) (x : X) → list_any p S ≡ false → IsIn x S → p x ≡ false
any_none p S x e h = false_from_ne_true (p x) (λ passes. true≢false (sym (any_in p S x h passes) ∙ e))

pub any_nothing : {X : Type 0} (p : X → Bool) (S : List X) → ((x : X) → IsIn x S → p x ≡ true → ⊥) → list_any p S ≡ false
any_nothing {X} p S none = false_from_ne_true (list_any p S) (λ e. let some : (x : X) × IsIn x S × (p x ≡ true) = any_some p S e in none some.0 some.1 some.2)
