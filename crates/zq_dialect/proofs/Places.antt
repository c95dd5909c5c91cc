-- Digits that are read one after the other.

use Rattle.std.proofs.Common.{ap, arith, get_or, inl, inr, length, min, mul-one, suc, sym, take, take_all, zero-mul, ℕ, ◌*◌, ◌+◌, ◌-◌, ◌<◌, ◌^◌, ◌∙◌, ◌≡◌, ◌≤◌, mul_left_comm}
use Rattle.std.proofs.Math.Nat.{pow-succ'}
use Rattle.std.proofs.lemmas.Bool.{cases_lt}
use Rattle.std.proofs.lemmas.List.{get_or_past, take_more}
use Rattle.std.proofs.lemmas.List.Sums.{fold_push}
use Rattle.zq_dialect.proofs.Numerals.{with_digit}
use Rattle.zq_dialect.specs.Numbers.{amount_at}
use Rattle.zq_words.specs.Words.{Word, number_of}

inside : (ds : Word) (i : ℕ) → i < length ds → amount_at ds (i + 1) ≡ with_digit (amount_at ds i) (get_or ds i 48)
inside ds i h =
    let one : (i + 1) - length ds ≡ 0 = omega arith in
    let flat : i - length ds ≡ 0 = omega arith in
    let before : amount_at ds i ≡ number_of (take i ds) = ap (λ k. number_of (take i ds) * 10 ^ k) flat ∙ mul-one (number_of (take i ds)) in
    let after : amount_at ds (i + 1) ≡ number_of (take (i + 1) ds) = ap (λ k. number_of (take (i + 1) ds) * 10 ^ k) one ∙ mul-one (number_of (take (i + 1) ds)) in
    after ∙ ap number_of (take_more ds i 48 h) ∙ fold_push with_digit 0 (take i ds) (get_or ds i 48) ∙ ap (λ n. with_digit n (get_or ds i 48)) (sym before)

past : (ds : Word) (i : ℕ) → length ds ≤ i → amount_at ds (i + 1) ≡ with_digit (amount_at ds i) (get_or ds i 48)
past ds i h =
    let more : (i + 1) - length ds ≡ suc (i - length ds) = omega arith in
    let power : 10 ^ ((i + 1) - length ds) ≡ 10 * 10 ^ (i - length ds) = ap (λ k. 10 ^ k) more ∙ pow-succ' 10 (i - length ds) in
    let all : take (i + 1) ds ≡ take i ds = take_all (i + 1) ds (omega arith) ∙ sym (take_all i ds h) in
    let zero : get_or ds i 48 ≡ 48 = get_or_past ds i 48 h in
    let times : amount_at ds (i + 1) ≡ 10 * amount_at ds i =
    ap (λ xs. number_of xs * 10 ^ ((i + 1) - length ds)) all ∙ ap (λ p. number_of (take i ds) * p) power ∙ mul_left_comm (number_of (take i ds)) 10 (10 ^ (i - length ds)) in
    times ∙ sums (10 * amount_at ds i) (get_or ds i 48) zero
  where
    sums : (n d : ℕ) → d ≡ 48 → n ≡ n + (d - 48)
    sums n d e = omega arith

next : (ds : Word) (i : ℕ) → amount_at ds (i + 1) ≡ with_digit (amount_at ds i) (get_or ds i 48)
next ds i = elim (cases_lt i (length ds)) [ inl h ↦ inside ds i h | inr h ↦ past ds i h ]

capped : (n m d : ℕ) → n ≡ min m (2 ^ 64 - 1) → min (10 * n + (d - 48)) (2 ^ 64 - 1) ≡ min (10 * m + (d - 48)) (2 ^ 64 - 1)
capped n m d e = omega arith

-- one place more
pub one_place : (ds : Word) (i amount digit : ℕ) → amount ≡ min (amount_at ds i) (2 ^ 64 - 1) → digit ≡ get_or ds i 48 →
    min (10 * amount + (digit - 48)) (2 ^ 64 - 1) ≡ min (amount_at ds (i + 1)) (2 ^ 64 - 1)
one_place ds i amount digit e f =
    capped amount (amount_at ds i) digit e
    ∙ ap (λ d. min (with_digit (amount_at ds i) d) (2 ^ 64 - 1)) f ∙ ap (λ n. min n (2 ^ 64 - 1)) (sym (next ds i))

-- none yet
pub no_place : (ds : Word) → 0 ≡ min (amount_at ds 0) (2 ^ 64 - 1)
no_place ds = let none : amount_at ds 0 ≡ 0 = zero-mul (10 ^ (0 - length ds)) in omega arith
