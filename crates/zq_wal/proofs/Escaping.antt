-- What was escaped is read again.

use Rattle.std.proofs.Common.{◌≡◌, ◌≢◌, inl, inr, ℕ, ◌+◌, ◌<◌, List, [], ◌∷◌, ◌++◌, length, take, get_or, refl, sym, ◌∙◌, ap, arith, append_assoc}
use Rattle.std.specs.Prelude.{Some, None, Option, false}
use Rattle.std.proofs.lemmas.Bool.{cases_eq}
use Rattle.std.proofs.lemmas.Bool.Decides.{nat_tests}
use Rattle.std.proofs.lemmas.List.{take_more}
use Rattle.zq_wal.specs.Chunk.{behind}
use Rattle.zq_wal.specs.Format.{escaped, unescaped, with_front, encoded, sum_bytes}

pub escaped-append : (xs ys : List ℕ) → escaped (xs ++ ys) ≡ escaped xs ++ escaped ys
escaped-append [] ys = refl
escaped-append (x ∷ xs) ys = let more = escaped-append xs ys in
    elim (cases_eq x 0) [
      | inl zero ↦ grind (arith, nat_tests, more)
      | inr some ↦ elim (cases_eq x 254) [
        | inl escape ↦ grind (arith, nat_tests, more)
        | inr no_escape ↦ elim (cases_eq x 255) [
          | inl end ↦ grind (arith, nat_tests, more)
          | inr other ↦ grind (arith, nat_tests, more)
        ]
      ]
    ]

-- what was escaped is the unescaped bytes
pub unescaped-escaped : (xs : List ℕ) → unescaped false (escaped xs) ≡ Some xs
unescaped-escaped [] = refl
unescaped-escaped (x ∷ xs) = let more = unescaped-escaped xs in
    elim (cases_eq x 0) [
      | inl zero ↦ grind (arith, nat_tests, more)
      | inr some ↦ elim (cases_eq x 254) [
        | inl escape ↦ grind (arith, nat_tests, more)
        | inr no_escape ↦ elim (cases_eq x 255) [
          | inl end ↦ grind (arith, nat_tests, more)
          | inr other ↦ grind (arith, nat_tests, more)
        ]
      ]
    ]

-- no byte of it is this one
abbrev pub Lacks : ℕ → List ℕ → Type 0
Lacks b [] = Unit {0}
Lacks b (x ∷ xs) = (x ≢ b) × Lacks b xs

pub escaped_has_no_zero : (xs : List ℕ) → Lacks 0 (escaped xs)
escaped_has_no_zero [] = tt
escaped_has_no_zero (x ∷ xs) = let more = escaped_has_no_zero xs in
    elim (cases_eq x 0) [
      | inl zero ↦ grind (arith, nat_tests, more)
      | inr some ↦ elim (cases_eq x 254) [
        | inl escape ↦ grind (arith, nat_tests, more)
        | inr no_escape ↦ elim (cases_eq x 255) [
          | inl end ↦ grind (arith, nat_tests, more)
          | inr other ↦ grind (arith, nat_tests, more)
        ]
      ]
    ]

pub escaped_has_no_end : (xs : List ℕ) → Lacks 255 (escaped xs)
escaped_has_no_end [] = tt
escaped_has_no_end (x ∷ xs) = let more = escaped_has_no_end xs in
    elim (cases_eq x 0) [
      | inl zero ↦ grind (arith, nat_tests, more)
      | inr some ↦ elim (cases_eq x 254) [
        | inl escape ↦ grind (arith, nat_tests, more)
        | inr no_escape ↦ elim (cases_eq x 255) [
          | inl end ↦ grind (arith, nat_tests, more)
          | inr other ↦ grind (arith, nat_tests, more)
        ]
      ]
    ]

pub escaped_step : (xs : List ℕ) (i : ℕ) (start now next : List ℕ) → i < length xs → now ≡ start ++ escaped (take i xs) → next ≡ now ++ escaped (get_or xs i 0 ∷ []) →
    next ≡ start ++ escaped (take (i + 1) xs)
escaped_step xs i start now next within before step =
    step ∙ ap (λ (l : List ℕ). l ++ escaped (get_or xs i 0 ∷ [])) before ∙ append_assoc start (escaped (take i xs)) (escaped (get_or xs i 0 ∷ []))
    ∙ ap (λ (l : List ℕ). start ++ l) (sym (escaped-append (take i xs) (get_or xs i 0 ∷ [])) ∙ ap escaped (sym (take_more xs i 0 within)))

pub encoded_parts : (payload start first second third : List ℕ) → first ≡ start ++ escaped (sum_bytes payload) → second ≡ first ++ escaped payload → third ≡ second ++ 255 ∷ [] →
    third ≡ start ++ encoded payload
encoded_parts payload start first second third one two three =
    three ∙ ap (λ (l : List ℕ). l ++ 255 ∷ []) (two ∙ ap (λ (l : List ℕ). l ++ escaped payload) one ∙ append_assoc start (escaped (sum_bytes payload)) (escaped payload)
    ∙ ap (λ (l : List ℕ). start ++ l) (sym (escaped-append (sum_bytes payload) payload)))
    ∙ append_assoc start (escaped (sum_bytes payload ++ payload)) (255 ∷ [])

pub behind_nothing : (o : Option (List ℕ)) → o ≡ behind [] o
behind_nothing None = refl
behind_nothing (Some bytes) = refl

pub behind_one : (front : List ℕ) (b : ℕ) (o : Option (List ℕ)) → behind front (with_front (Some b) o) ≡ behind (front ++ b ∷ []) o
behind_one front b None = refl
behind_one front b (Some bytes) = ap (λ (l : List ℕ). Some l) (sym (append_assoc front (b ∷ []) bytes))
