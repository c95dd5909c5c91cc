-- The numbers that a run tells, one after the other.

use Rattle.std.proofs.Common.{ap, append-nil, append_assoc, arith, List, length, refl, Some, replicate, set, suc, sym, take, zero, ℕ, [], ◌∷◌, ◌++◌, ◌+◌, ◌-◌, ◌<◌, ◌≡◌, ◌∙◌}
use Rattle.std.proofs.lemmas.List.{take_all, take_more_set}
use Rattle.std.proofs.lemmas.List.Elements.{All-head, All-tail}
use Rattle.std.proofs.lemmas.Nat.{from_be_bytes-to_be_bytes_8}
use Rattle.std.specs.Int.{to_be_bytes, w64}
use Rattle.std.specs.Prelude.{All, flat_map, unwrap_or, ◌^◌, ◌≤◌}
use Rattle.zq_fields.proofs.Again.{u64_read}
use Rattle.zq_wire.specs.GreetingLaws.{RunIsTold}
use Rattle.zq_wire.specs.Told.{next_number_in, numbers}

none_left : (bytes : List ℕ) → numbers zero bytes ≡ []
unfolding numbers
none_left bytes = refl

next_of : (n : ℕ) (bytes : List ℕ) → numbers (suc n) bytes ≡ (next_number_in bytes).0 ∷ numbers n (next_number_in bytes).1
unfolding numbers
next_of n bytes = refl

-- the next number goes to its place
pub one_more : (whole old rest after : List ℕ) (index number : ℕ) → index < 16 → length old ≡ 16 → whole ≡ take index old ++ numbers (16 - index) rest
    → (number, after) ≡ next_number_in rest → whole ≡ take (index + 1) (set old index number) ++ numbers (16 - (index + 1)) after
one_more whole old rest after index number below long is next =
    let left : 16 - index ≡ suc (16 - (index + 1)) = omega arith in
    let first : (next_number_in rest).0 ≡ number = λ i. (sym next i).0 in
    let others : (next_number_in rest).1 ≡ after = λ i. (sym next i).1 in
    let read : numbers (16 - index) rest ≡ number ∷ numbers (16 - (index + 1)) after =
    ap (λ n. numbers n rest) left ∙ (next_of (16 - (index + 1)) rest ∙ (λ i. first i ∷ numbers (16 - (index + 1)) (others i))) in
    let here : take (index + 1) (set old index number) ≡ take index old ++ number ∷ [] = take_more_set old index number (omega (arith, below, long)) in
    is ∙ (ap (λ l. take index old ++ l) read ∙ (sym (append_assoc (take index old) (number ∷ []) (numbers (16 - (index + 1)) after)) ∙ ap (λ l. l ++ numbers (16 - (index + 1)) after) (sym here)))

-- none is left
pub all_there : (whole old rest : List ℕ) (index : ℕ) → index ≡ 16 → length old ≡ 16 → whole ≡ take index old ++ numbers (16 - index) rest → old ≡ whole
all_there whole old rest index end long is =
    let none : 16 - index ≡ 0 = omega (arith, end) in
    let all : take index old ≡ old = take_all index old (omega (arith, end, long)) in
    sym (is ∙ ((λ i. all i ++ numbers (none i) rest) ∙ (ap (λ l. old ++ l) (none_left rest) ∙ append-nil old)))

-- ---- what is told is read

-- a number that was written is the next
next_written : (n : ℕ) (rest : List ℕ) → n < 2 ^ 64 → next_number_in (to_be_bytes w64 n ++ rest) ≡ (n, rest)
next_written n rest fits = ap (λ o. unwrap_or o (0, to_be_bytes w64 n ++ rest)) (u64_read n rest fits)

nothing_more : (n : ℕ) → numbers n [] ≡ replicate n 0
nothing_more zero = none_left []
nothing_more (suc n) = next_of n [] ∙ ap (λ l. 0 ∷ l) (nothing_more n)

pub numbers_written : (n : ℕ) (counters : List ℕ) → length counters ≤ n → All (λ c. c < 2 ^ 64) counters → numbers n (flat_map (to_be_bytes w64) counters) ≡ counters ++ replicate (n - length counters) 0
numbers_written n [] fits small = let all : n ≡ n - 0 = omega arith in nothing_more n ∙ ap (λ k. replicate k 0) all
numbers_written zero (c ∷ counters) fits small = absurd (omega arith)
numbers_written (suc n) (c ∷ counters) fits small =
    let next = next_written c (flat_map (to_be_bytes w64) counters) (All-head (λ c. c < 2 ^ 64) c counters small) in
    let again = numbers_written n counters (omega arith) (All-tail (λ c. c < 2 ^ 64) c counters small) in
    let left : suc n - suc (length counters) ≡ n - length counters = omega arith in
    next_of n (to_be_bytes w64 c ++ flat_map (to_be_bytes w64) counters) ∙ ((λ i. (next i).0 ∷ numbers n (next i).1) ∙ (ap (λ l. c ∷ l) again ∙ ap (λ k. c ∷ (counters ++ replicate k 0)) (sym left)))

pub run_is_told : RunIsTold
run_is_told side few start small =
    let number = from_be_bytes-to_be_bytes_8 side.start start in
    let told : numbers 16 (flat_map (to_be_bytes w64) (take 16 side.counters.now)) ≡ numbers 16 (flat_map (to_be_bytes w64) side.counters.now) =
    ap (λ counters. numbers 16 (flat_map (to_be_bytes w64) counters)) (take_all 16 side.counters.now few) in
    let counters = told ∙ numbers_written 16 side.counters.now few small in
    λ i. Some (record { name = side.run; start = number i; counters = counters i })
