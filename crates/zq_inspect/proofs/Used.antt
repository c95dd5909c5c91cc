-- What one read more makes of what is known of the bytes.

use Rattle.std.proofs.Common.{List, [], ap, arith, length, sym, ◌+◌, ◌++◌, ◌∙◌, ◌∷◌, ◌≡◌, ℕ}
use Rattle.std.proofs.lemmas.List.{length-append}
use Rattle.std.specs.Prelude.{if◌then◌else◌, ◌==◌}
use Rattle.zq_inspect.specs.Bytes.{Answer, answer_of, given_by, used_from, used_of}

pub used_append : (at used : ℕ) (xs ys : List ℕ) →
    used_from at used (xs ++ ys) ≡ used_from (at + length xs) (used_from at used xs) ys
used_append at used [] ys =
    let same : at ≡ at + 0 = omega arith in ap (λ n. used_from n used ys) same
used_append at used (x ∷ xs) ys =
    let next : ℕ = if x == 0 then used else at + 1 in
    let same : at + 1 + length xs ≡ at + length (x ∷ xs) = omega arith in
    used_append (at + 1) next xs ys
    ∙ ap (λ n. used_from n (used_from (at + 1) next xs) ys) same

module _ (events later : List Answer) (room : ℕ) (bytes : List ℕ)
    (is : later ≡ answer_of (1 ∷ room ∷ []) bytes ∷ events) where
  given_next : given_by later ≡ given_by events ++ bytes
  given_next = ap given_by is

  pub total_next : (before total n : ℕ) → before ≡ length (given_by events) → n ≡ length bytes →
      total ≡ before + n → total ≡ length (given_by later)
  total_next before total n was len sum =
      sum ∙ ap (λ k. k + n) was ∙ ap (λ k. length (given_by events) + k) len
      ∙ sym (length-append (given_by events) bytes) ∙ sym (ap length given_next)

  pub used_next : (before old new : ℕ) → before ≡ length (given_by events) →
      old ≡ used_of (given_by events) → new ≡ used_from before old bytes →
      new ≡ used_of (given_by later)
  used_next before old new was had has =
      let all : ℕ = length (given_by events) in
      let same : all ≡ 0 + all = omega arith in
      let used : ℕ = used_of (given_by events) in
      has ∙ ap (λ n. used_from n old bytes) was
      ∙ ap (λ n. used_from (length (given_by events)) n bytes) had
      ∙ ap (λ n. used_from n used bytes) same
      ∙ sym (used_append 0 0 (given_by events) bytes) ∙ sym (ap used_of given_next)
