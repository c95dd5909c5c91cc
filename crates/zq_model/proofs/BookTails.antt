-- What steps make of a tail.

use Rattle.std.proofs.Common.{inl, inr, sym, ◌∙◌}
use Rattle.std.proofs.lemmas.List.{append-nil, append_assoc}
use Rattle.std.specs.Prelude.{List, [], refl, ◌++◌, ◌∷◌, ◌≡◌, ◌⊎◌}
use Rattle.zq_model.specs.Books.{HandedOn, Merged, Record, Recorded, Step, TookOver, tail_after}

-- further steps work on the tail that the first ones leave
pub tail_after-append : (tail : List Record) (xs ys : List Step) → tail_after tail (xs ++ ys) ≡ tail_after (tail_after tail xs) ys
tail_after-append tail [] ys = refl
tail_after-append tail (Recorded r ∷ xs) ys = tail_after-append (tail ++ r ∷ []) xs ys
tail_after-append tail (Merged stamp other ∷ xs) ys = tail_after-append [] xs ys
tail_after-append tail (HandedOn stamp handed ∷ xs) ys = tail_after-append tail xs ys
tail_after-append tail (TookOver stamp other ∷ xs) ys = tail_after-append [] xs ys

-- what stands before a tail is dropped by another image, or stays before it, and then the tail has only grown
pub tail_after-behind : (front tail : List Record) (xs : List Step) →
    (tail_after (front ++ tail) xs ≡ tail_after tail xs) ⊎ ((tail_after (front ++ tail) xs ≡ front ++ tail_after tail xs) × ((added : List Record) × (tail_after tail xs ≡ tail ++ added)))
tail_after-behind front tail [] = inr (refl, ([], sym (append-nil tail)))
tail_after-behind front tail (Recorded r ∷ xs) =
    rw (append_assoc front tail (r ∷ [])) elim (tail_after-behind front (tail ++ r ∷ []) xs) [
      | inl same ↦ inl same
      | inr kept ↦ inr (kept.0, (r ∷ kept.1.0, kept.1.1 ∙ append_assoc tail (r ∷ []) kept.1.0))
    ]
tail_after-behind front tail (Merged stamp other ∷ xs) = inl refl
tail_after-behind front tail (HandedOn stamp handed ∷ xs) = tail_after-behind front tail xs
tail_after-behind front tail (TookOver stamp other ∷ xs) = inl refl
