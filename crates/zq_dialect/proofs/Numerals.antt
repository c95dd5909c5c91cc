-- Numbers that digits write.

use Rattle.std.proofs.Common.{[], add-mul, ap, arith, eq-zero-or-pos, inl, inr, length, mul-le-mul_right, mul-pos, mul_assoc, mul_left_comm, refl, sym, true, zero-mul, ℕ, ◌*◌, ◌++◌, ◌+◌, ◌-◌, ◌<◌, ◌^◌, ◌∙◌, ◌∷◌, ◌≡◌, ◌≤◌, ◌⊎◌}
use Rattle.std.proofs.Math.Nat.{one-le-pow, pow-succ'}
use Rattle.std.proofs.lemmas.Bool.{and_from, and_parts, eq-eqb, eqb-true}
use Rattle.std.proofs.lemmas.List.Sums.{fold-append}
use Rattle.std.specs.Char.{is_ascii_digit}
use Rattle.std.specs.List.{fold, list_all}
use Rattle.zq_words.specs.Words.{Word, is_zero, number_of}

-- a number with a digit behind it
abbrev pub with_digit : ℕ → ℕ → ℕ
with_digit n digit = 10 * n + (digit - 48)

one_more : (a v p n q : ℕ) → q ≡ 10 * p → (10 * a + v) * p + n ≡ a * q + ((10 * 0 + v) * p + n)
one_more a v p n q e =
    let left : (10 * a + v) * p ≡ 10 * (a * p) + v * p = add-mul (10 * a) v p ∙ ap (λ t. t + v * p) (mul_assoc 10 a p) in
    let right : a * q ≡ 10 * (a * p) = ap (λ t. a * t) e ∙ mul_left_comm a 10 p in
    let zero : 10 * 0 + v ≡ v = omega arith in
    let last : (10 * 0 + v) * p ≡ v * p = ap (λ t. t * p) zero in
    ap (λ t. t + n) left ∙ sums (10 * (a * p)) (v * p) n (a * q) ((10 * 0 + v) * p) right last
  where
    sums : (x y n r s : ℕ) → r ≡ x → s ≡ y → (x + y) + n ≡ r + (s + n)
    sums x y n r s e f = omega arith

-- what stands before digits counts for as many places
pub moved_before : (a : ℕ) (ds : Word) → fold with_digit a ds ≡ a * 10 ^ length ds + number_of ds
moved_before a [] = omega arith
moved_before a (d ∷ ds) =
    moved_before (10 * a + (d - 48)) ds
    ∙ one_more a (d - 48) (10 ^ length ds) (number_of ds) (10 ^ length (d ∷ ds)) (pow-succ' 10 (length ds))
    ∙ ap (λ t. a * 10 ^ length (d ∷ ds) + t) (sym (moved_before (10 * 0 + (d - 48)) ds))

pub number_joined : (xs ys : Word) → number_of (xs ++ ys) ≡ number_of xs * 10 ^ length ys + number_of ys
number_joined xs ys = fold-append with_digit 0 xs ys ∙ moved_before (number_of xs) ys

pub number_first : (d : ℕ) (ds : Word) → number_of (d ∷ ds) ≡ (d - 48) * 10 ^ length ds + number_of ds
number_first d ds =
    let zero : 10 * 0 + (d - 48) ≡ d - 48 = omega arith in
    moved_before (10 * 0 + (d - 48)) ds ∙ ap (λ t. t * 10 ^ length ds + number_of ds) zero

digit_small : (d : ℕ) → is_ascii_digit d ≡ true → d - 48 ≤ 9
digit_small d e = grind (arith, e)

digit_least : (d : ℕ) → is_ascii_digit d ≡ true → 48 ≤ d
digit_least d e = grind (arith, e)

pub tens_positive : (k : ℕ) → 0 < 10 ^ k
tens_positive k = let least : 1 ≤ 10 ^ k = one-le-pow k 10 (omega arith) in omega arith

-- digits write less than a one with as many zeros
pub number_below : (ds : Word) → list_all is_ascii_digit ds ≡ true → number_of ds < 10 ^ length ds
number_below [] e = tens_positive 0
number_below (d ∷ ds) e =
    let parts = and_parts _ _ e in
    let below : number_of ds < 10 ^ length ds = number_below ds parts.1 in
    let most : (d - 48) * 10 ^ length ds ≤ 9 * 10 ^ length ds = mul-le-mul_right (10 ^ length ds) (digit_small d parts.0) in
    let more : 10 ^ length (d ∷ ds) ≡ 10 * 10 ^ length ds = pow-succ' 10 (length ds) in
    let sum : number_of (d ∷ ds) ≡ (d - 48) * 10 ^ length ds + number_of ds = number_first d ds in
    fits (number_of (d ∷ ds)) (10 ^ length (d ∷ ds)) (10 ^ length ds) ((d - 48) * 10 ^ length ds) (number_of ds) sum more most below
  where
    fits : (n q p x y : ℕ) → n ≡ x + y → q ≡ 10 * p → x ≤ 9 * p → y < p → n < q
    fits n q p x y e f g h = omega arith

-- zeros write 0
pub zeros_none : (ds : Word) → list_all is_zero ds ≡ true → number_of ds ≡ 0
zeros_none [] e = refl
zeros_none (d ∷ ds) e =
    let parts = and_parts _ _ e in
    let zero : d ≡ 48 = eqb-true d 48 parts.0 in
    let v : d - 48 ≡ 0 = omega arith in
    let first : (d - 48) * 10 ^ length ds ≡ 0 = ap (λ t. t * 10 ^ length ds) v ∙ zero-mul (10 ^ length ds) in
    let none : number_of ds ≡ 0 = zeros_none ds parts.1 in
    number_first d ds ∙ sums ((d - 48) * 10 ^ length ds) (number_of ds) first none
  where
    sums : (x y : ℕ) → x ≡ 0 → y ≡ 0 → x + y ≡ 0
    sums x y e f = omega arith

factor : (v p : ℕ) → 0 < p → v * p ≡ 0 → v ≡ 0
factor v p positive e = by (eq-zero-or-pos v)
  where
    by : (v ≡ 0) ⊎ (0 < v) → v ≡ 0
    by (inl none) = none
    by (inr more) = let product : 0 < v * p = mul-pos more positive in absurd (omega arith)

-- digits that write 0 are zeros
pub none_zeros : (ds : Word) → list_all is_ascii_digit ds ≡ true → number_of ds ≡ 0 → list_all is_zero ds ≡ true
none_zeros [] e f = refl
none_zeros (d ∷ ds) e f =
    let parts = and_parts _ _ e in
    let sum : (d - 48) * 10 ^ length ds + number_of ds ≡ 0 = sym (number_first d ds) ∙ f in
    let each = both ((d - 48) * 10 ^ length ds) (number_of ds) sum in
    let least : 48 ≤ d = digit_least d parts.0 in
    let none : d - 48 ≡ 0 = factor (d - 48) (10 ^ length ds) (tens_positive (length ds)) each.0 in
    and_from _ _ (eq-eqb d 48 (omega arith)) (none_zeros ds parts.1 each.1)
  where
    both : (x y : ℕ) → x + y ≡ 0 → (x ≡ 0) × (y ≡ 0)
    both x y e = (omega arith, omega arith)
