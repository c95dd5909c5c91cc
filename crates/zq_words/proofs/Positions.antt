-- What the first place that passes says of the whole list.
use Rattle.std.proofs.Common.{◌≡◌, ℕ, Bool, true, false, cond, not, ◌||◌, ◌+◌, nat_lt, List, [], ◌∷◌, length, take, None, Some, refl, ◌∙◌, arith}
use Rattle.std.specs.List.{list_any, position, position_or_len}
use Rattle.std.proofs.lemmas.List.{take_all}
use Rattle.std.proofs.lemmas.Bool.{ltb-false}

pub list_any-place : {X : Type 0} (p : X → Bool) (xs : List X) → list_any p xs ≡ nat_lt (position_or_len p xs) (length xs)
list_any-place p [] = refl
list_any-place p (x ∷ xs) =
    elim (p x) as (λ b. (b || list_any p xs) ≡ nat_lt (cond (not b) (1 + position_or_len p xs) 0) (length (x ∷ xs)))
    [ true ↦ grind arith | false ↦ grind (arith, list_any-place p xs) ]

found : (b : Bool) (n i : ℕ) → cond b (Some n) None ≡ Some i → (b ≡ true) × (n ≡ i)
found true n i e = (refl, cc)
found false n i e = cc

unfound : (b : Bool) (n : ℕ) → cond b (Some n) None ≡ None → b ≡ false
unfound true n e = cc
unfound false n e = refl

pub passes_at : {X : Type 0} (p : X → Bool) (xs : List X) (i : ℕ) → position p xs ≡ Some i → (list_any p xs ≡ true) × (position_or_len p xs ≡ i)
passes_at p xs i e = let f = found _ _ i e in (list_any-place p xs ∙ f.0, f.1)

pub passes_nowhere : {X : Type 0} (p : X → Bool) (xs : List X) → position p xs ≡ None → (list_any p xs ≡ false) × (take (position_or_len p xs) xs ≡ xs)
passes_nowhere p xs e = let f = unfound _ _ e in (list_any-place p xs ∙ f, take_all _ xs (ltb-false _ _ f))
