-- What is written item by item.

use Rattle.std.proofs.Common.{ap, append_assoc, arith, get_or, inl, inr, length, List, map, suc, sym, take, zero, [], ℕ, ◌+◌, ◌++◌, ◌<◌, ◌∙◌, ◌∷◌, ◌≡◌}
use Rattle.std.proofs.lemmas.List.{flat_map_more, take_more}
use Rattle.std.specs.List.{flat_map}
use Rattle.zq_model.specs.Sets.{IsIn}

-- one item more is written
pub each_written : {X : Type 0} (spell : X → List ℕ) (old out new : List ℕ) (xs : List X) (i : ℕ) (x : X) → i < length xs → x ≡ get_or xs i x → out ≡ old ++ flat_map spell (take i xs) → new ≡ out ++ spell x → new ≡ old ++ flat_map spell (take (i + 1) xs)
each_written spell old out new xs i x below is had more =
    let taken : take (i + 1) xs ≡ take i xs ++ x ∷ [] = take_more xs i x below ∙ ap (λ y. take i xs ++ y ∷ []) (sym is) in
    more ∙ (ap (λ b. b ++ spell x) had ∙ (flat_map_more spell old (take i xs) x ∙ ap (λ ys. old ++ flat_map spell ys) (sym taken)))

-- two parts, one after the other
pub both_written : (old mid new a b : List ℕ) → mid ≡ old ++ a → new ≡ mid ++ b → new ≡ old ++ (a ++ b)
both_written old mid new a b first second = second ∙ (ap (λ x. x ++ b) first ∙ append_assoc old a b)

-- the item at a place is among those that are made of all
pub at_in : {X Y : Type 0} (f : X → Y) (xs : List X) (i : ℕ) (x : X) → i < length xs → x ≡ get_or xs i x → IsIn (f x) (map f xs)
at_in f [] i x below is = absurd (omega arith)
at_in f (y ∷ xs) zero x below is = inl (ap f (sym is))
at_in f (y ∷ xs) (suc i) x below is = inr (at_in f xs i x (omega arith) is)

-- what is made of the item at a place stands at that place
pub at_map : {X Y : Type 0} (f : X → Y) (xs : List X) (i : ℕ) (x : X) → i < length xs → x ≡ get_or xs i x → (f x ≡ get_or (map f xs) i (f x)) × (i < length (map f xs))
at_map f [] i x below is = absurd (omega arith)
at_map f (y ∷ xs) zero x below is = (ap f is, omega arith)
at_map f (y ∷ xs) (suc i) x below is = let rest = at_map f xs i x (omega arith) is in (rest.0, let more = rest.1 in omega arith)
