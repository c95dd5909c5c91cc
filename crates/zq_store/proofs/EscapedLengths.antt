-- How long what is escaped is.

use Rattle.std.proofs.Common.{List, [], ◌∷◌, ap, arith, get_or, inl, inr, length, take, ℕ, ◌+◌, ◌++◌, ◌<◌, ◌≡◌, ◌∙◌}
use Rattle.std.proofs.lemmas.Bool.{cases_eq}
use Rattle.std.proofs.lemmas.Bool.Decides.{nat_tests}
use Rattle.std.proofs.lemmas.List.{take_more}
use Rattle.zq_wal.specs.Format.{escaped}

-- it is as long as what its parts become
pub escaped_parts : (xs ys : List ℕ) → length (escaped (xs ++ ys)) ≡ length (escaped xs) + length (escaped ys)
escaped_parts [] ys = omega (arith)
escaped_parts (x ∷ xs) ys = let more = escaped_parts xs ys in
    elim (cases_eq x 0) [
      | inl zero ↦ grind (arith, nat_tests, more)
      | inr some ↦ elim (cases_eq x 254) [
        | inl escape ↦ grind (arith, nat_tests, more)
        | inr no_escape ↦ elim (cases_eq x 255) [
          | inl end ↦ grind (arith, nat_tests, more)
          | inr other ↦ grind (arith, nat_tests, more)
        ]
      ]
    ]

-- by a byte more it is longer by what that one becomes
pub escaped_more : (bytes : List ℕ) (i : ℕ) → i < length bytes →
    length (escaped (take (i + 1) bytes)) ≡ length (escaped (take i bytes)) + length (escaped (get_or bytes i 0 ∷ []))
escaped_more bytes i within =
    ap (λ (l : List ℕ). length (escaped l)) (take_more bytes i 0 within) ∙ escaped_parts (take i bytes) (get_or bytes i 0 ∷ [])
