-- Digits before and behind a point that was moved.

use Rattle.std.proofs.Common.{Bool, [], add-mul, ap, arith, drop, inl, inr, length, length-append, length-drop, mul-lt-mul_of_pos_right, mul-one, mul-pos, mul_assoc, refl, subst, sym, take, take_all, take-append-drop, suc, true, zero, zero-mul, ℕ, ◌*◌, ◌++◌, ◌+◌, ◌-◌, ◌<◌, ◌^◌, ◌∙◌, ◌∷◌, ◌≡◌, ◌≤◌, ◌⊎◌, eq-zero-or-pos}
use Rattle.std.proofs.Math.Nat.{pow-le-pow_right}
use Rattle.std.proofs.lemmas.Bool.{and_parts, cases_lt}
use Rattle.std.proofs.lemmas.List.{drop_all}
use Rattle.std.proofs.lemmas.Nat.{pow-add}
use Rattle.std.specs.Char.{is_ascii_digit}
use Rattle.std.specs.List.{list_all}
use Rattle.zq_dialect.proofs.Numerals.{none_zeros, number_below, number_joined, tens_positive, zeros_none}
use Rattle.zq_dialect.specs.Numbers.{amount_at}
use Rattle.zq_words.specs.Words.{Word, is_zero, number_of}

-- Digits times 10^up are the digits before a point times 10^down, and less than 10^down is left. It
-- is 0 where only zeros stand behind the point.
pub record Splits (digits : Word) (point up down : ℕ) : Type 0 where
  pub rest : ℕ
  pub sum : number_of digits * 10 ^ up ≡ amount_at digits point * 10 ^ down + rest
  pub small : rest < 10 ^ down
  pub zeros : list_all is_zero (drop point digits) ≡ true → rest ≡ 0
  pub none : rest ≡ 0 → list_all is_zero (drop point digits) ≡ true

product_zero : (x k : ℕ) → x * 10 ^ k ≡ 0 → x ≡ 0
product_zero x k e = by (eq-zero-or-pos x)
  where
    by : (x ≡ 0) ⊎ (0 < x) → x ≡ 0
    by (inl none) = none
    by (inr more) = let product : 0 < x * 10 ^ k = mul-pos more (tens_positive k) in absurd (omega arith)

-- the part of a list behind a point passes what the whole passes
passed_on : (p : ℕ → Bool) (n : ℕ) (ds : Word) → list_all p ds ≡ true → list_all p (drop n ds) ≡ true
passed_on p zero ds e = e
passed_on p (suc n) [] e = refl
passed_on p (suc n) (d ∷ ds) e = passed_on p n ds (and_parts _ _ e).1

-- the point stands within the digits, or at their end
within : (ds : Word) (point up down : ℕ) → list_all is_ascii_digit ds ≡ true → point ≤ length ds → down ≡ (length ds - point) + up →
    Splits ds point up down
within ds point up down digits inside e =
    let tail : Word = drop point ds in
    let head : ℕ = number_of (take point ds) in
    let size : length tail ≡ length ds - point = length-drop point ds in
    let down_is : down ≡ length tail + up = omega arith in
    let places : 10 ^ down ≡ 10 ^ length tail * 10 ^ up = ap (λ k. 10 ^ k) down_is ∙ pow-add 10 (length tail) up in
    let joined : number_of ds ≡ head * 10 ^ length tail + number_of tail = ap number_of (sym (take-append-drop point ds)) ∙ number_joined (take point ds) tail in
    let flat : point - length ds ≡ 0 = omega arith in
    let amount : amount_at ds point ≡ head = ap (λ k. head * 10 ^ k) flat ∙ mul-one head in
    let below : number_of tail < 10 ^ length tail = number_below tail (passed_on is_ascii_digit point ds digits) in
    record {
      rest = number_of tail * 10 ^ up;
      sum =
          ap (λ n. n * 10 ^ up) joined ∙ add-mul (head * 10 ^ length tail) (number_of tail) (10 ^ up)
          ∙ ap (λ n. n + number_of tail * 10 ^ up) (mul_assoc head (10 ^ length tail) (10 ^ up) ∙ ap (λ n. head * n) (sym places) ∙ ap (λ n. n * 10 ^ down) (sym amount));
      small = subst (λ n. number_of tail * 10 ^ up < n) (sym places) (mul-lt-mul_of_pos_right below (tens_positive up));
      zeros = λ zeros. ap (λ n. n * 10 ^ up) (zeros_none tail zeros) ∙ zero-mul (10 ^ up);
      none = λ none. none_zeros tail (passed_on is_ascii_digit point ds digits) (product_zero (number_of tail) up none);
    }

-- the point stands behind zeros that follow the digits
beyond : (ds : Word) (point up down : ℕ) → length ds ≤ point → up ≡ (point - length ds) + down → Splits ds point up down
beyond ds point up down past e =
    let more : ℕ = point - length ds in
    let places : 10 ^ up ≡ 10 ^ more * 10 ^ down = ap (λ k. 10 ^ k) e ∙ pow-add 10 more down in
    let whole : take point ds ≡ ds = take_all point ds past in
    let tail : drop point ds ≡ [] = drop_all point ds past in
    let amount : amount_at ds point ≡ number_of ds * 10 ^ more = ap (λ xs. number_of xs * 10 ^ more) whole in
    let same : number_of ds * 10 ^ up ≡ amount_at ds point * 10 ^ down =
    ap (λ n. number_of ds * n) places ∙ sym (mul_assoc (number_of ds) (10 ^ more) (10 ^ down)) ∙ ap (λ n. n * 10 ^ down) (sym amount) in
    record {
      rest = 0;
      sum = same ∙ omega arith;
      small = tens_positive down;
      zeros = λ zeros. refl;
      none = λ none. ap (list_all is_zero) tail;
    }

-- the point stands before all digits, behind zeros or not
before : (ds : Word) (down : ℕ) → list_all is_ascii_digit ds ≡ true → length ds ≤ down → Splits ds 0 0 down
before ds down digits short =
    let below : number_of ds < 10 ^ length ds = number_below ds digits in
    let most : 10 ^ length ds ≤ 10 ^ down = pow-le-pow_right {n = 10} (omega arith) {i = length ds} {j = down} short in
    let nothing : amount_at ds 0 * 10 ^ down ≡ 0 = ap (λ n. n * 10 ^ down) (zero-mul (10 ^ (0 - length ds))) ∙ zero-mul (10 ^ down) in
    let one : number_of ds * 10 ^ 0 ≡ number_of ds = mul-one (number_of ds) in
    record {
      rest = number_of ds;
      sum = one ∙ sums (number_of ds) (amount_at ds 0 * 10 ^ down) nothing;
      small = omega arith;
      zeros = λ zeros. zeros_none ds zeros;
      none = λ none. none_zeros ds digits none;
    }
  where
    sums : (n z : ℕ) → z ≡ 0 → n ≡ z + n
    sums n z e = omega arith

-- a point that moves to the right
pub moved_up : (whole fraction : Word) (places : ℕ) → list_all is_ascii_digit (whole ++ fraction) ≡ true →
    Splits (whole ++ fraction) (length whole + places) places (length fraction + 0)
moved_up whole fraction places digits =
    let size : length (whole ++ fraction) ≡ length whole + length fraction = length-append whole fraction in
    elim (cases_lt (length fraction) places) [
      | inl more ↦ beyond (whole ++ fraction) (length whole + places) places (length fraction + 0) (omega arith) (omega arith)
      | inr fewer ↦ within (whole ++ fraction) (length whole + places) places (length fraction + 0) digits (omega arith) (omega arith)
    ]

-- a point that moves to the left
pub moved_down : (whole fraction : Word) (places : ℕ) → list_all is_ascii_digit (whole ++ fraction) ≡ true →
    Splits (whole ++ fraction) (length whole - places) 0 (length fraction + places)
moved_down whole fraction places digits =
    let size : length (whole ++ fraction) ≡ length whole + length fraction = length-append whole fraction in
    elim (cases_lt (length whole) places) [
      | inl more ↦
          let none : length whole - places ≡ 0 = omega arith in
          subst (λ p. Splits (whole ++ fraction) p 0 (length fraction + places)) (sym none)
          (before (whole ++ fraction) (length fraction + places) digits (omega arith))
      | inr fewer ↦ within (whole ++ fraction) (length whole - places) 0 (length fraction + places) digits (omega arith) (omega arith)
    ]
