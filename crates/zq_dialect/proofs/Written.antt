-- Scores are read again as they are written.

use Rattle.std.proofs.Common.{Bool, None, Option, Some, [], ap, arith, decimal, false, neg_ℤ, negsuc, pos, refl, subst, suc, sym, true, zero, ℕ, ℤ, ◌%◌, ◌++◌, ◌+◌, ◌/◌, ◌<◌, ◌^◌, ◌∙◌, ◌∷◌, ◌≡◌, ◌≤◌, ◌≤ℤ◌, int_le}
use Rattle.std.proofs.lemmas.Bool.{and_from, and_parts, leb-true, ltb-false}
use Rattle.std.proofs.lemmas.Fmt.{decimal_by_steps}
use Rattle.std.proofs.lemmas.Int.{ints}
use Rattle.std.proofs.lemmas.List.{take_all}
use Rattle.std.proofs.lemmas.List.Sums.{fold_push}
use Rattle.std.proofs.lemmas.Option.{none-some}
use Rattle.std.specs.Char.{is_ascii_digit}
use Rattle.std.specs.Fmt.{signed_decimal}
use Rattle.std.specs.List.{before_first, list_all, list_any}
use Rattle.std.specs.Option.{option_and_then, option_map}
use Rattle.std.specs.Prelude.{unwrap_or}
use Rattle.zq_dialect.proofs.Numerals.{with_digit}
use Rattle.zq_dialect.proofs.Values.{given, if_so, unless}
use Rattle.zq_dialect.specs.Laws.{ScoresAreRead}
use Rattle.zq_dialect.specs.Numbers.{Number, number_in}
use Rattle.zq_dialect.specs.Rounded.{rounded, score_of, signed_by}
use Rattle.zq_dialect.specs.Spelled.{is_plain, whole_score}
use Rattle.zq_model.proofs.Rising.{is_true}
use Rattle.zq_words.proofs.Digits.{plain_score}
use Rattle.zq_words.proofs.Positions.{list_any-place}
use Rattle.zq_words.specs.Words.{Word, are_all, if_passes, is_in_range, is_nonempty, is_point, number_of, written_score}

-- the digits of a number
pub record AreDigits (n : ℕ) (ds : Word) : Type 0 where
  pub digits : list_all is_ascii_digit ds ≡ true
  pub some : is_nonempty ds ≡ true
  pub number : number_of ds ≡ n

digit_is : (n : ℕ) → n < 10 → is_ascii_digit (48 + n) ≡ true
digit_is n h = grind (arith, h)

all_push : (ds : Word) (d : ℕ) → list_all is_ascii_digit ds ≡ true → is_ascii_digit d ≡ true → list_all is_ascii_digit (ds ++ d ∷ []) ≡ true
all_push [] d e f = and_from _ _ f refl
all_push (x ∷ ds) d e f = let parts = and_parts _ _ e in and_from _ _ parts.0 (all_push ds d parts.1 f)

some_push : (ds : Word) (d : ℕ) → is_nonempty (ds ++ d ∷ []) ≡ true
some_push [] d = refl
some_push (x ∷ ds) d = refl

one_digit : (n : ℕ) → n < 10 → AreDigits n ((48 + n) ∷ [])
one_digit n h = record { digits = and_from _ _ (digit_is n h) refl; some = refl; number = omega arith }

digit_more : (n : ℕ) (ds : Word) → 10 ≤ n → AreDigits (n / 10) ds → AreDigits n (ds ++ (48 + n % 10) ∷ [])
digit_more n ds h before =
    let front : number_of ds ≡ n / 10 = before.number in
    let last : with_digit (n / 10) (48 + n % 10) ≡ n = omega arith in
    record {
      digits = all_push ds (48 + n % 10) before.digits (digit_is (n % 10) (omega arith));
      some = some_push ds (48 + n % 10);
      number = fold_push with_digit 0 ds (48 + n % 10) ∙ ap (λ m. with_digit m (48 + n % 10)) front ∙ last;
    }

pub decimal_digits : (n : ℕ) → n < 2 ^ 64 → AreDigits n (decimal n)
decimal_digits n h = decimal_by_steps AreDigits one_digit digit_more n h

point_apart : (d : ℕ) → is_ascii_digit d ≡ true → is_point d ≡ false
point_apart d e = grind (arith, e)

pointless : (ds : Word) → list_all is_ascii_digit ds ≡ true → list_any is_point ds ≡ false
pointless [] e = refl
pointless (d ∷ ds) e = let parts = and_parts _ _ e in rw (point_apart d parts.0) (pointless ds parts.1)

whole : (text : Word) → list_any is_point text ≡ false → before_first is_point text ≡ text
whole text none = take_all _ text (ltb-false _ _ (sym (list_any-place is_point text) ∙ none))

to_test : (x y : ℤ) → x ≤ℤ y → int_le x y ≡ true
to_test x y h = is_true (int_le x y) h.le

in_range : (z : ℤ) → neg_ℤ (pos 9007199254740992) ≤ℤ z → z ≤ℤ pos 9007199254740992 → is_in_range z ≡ true
in_range z low high = and_from _ _ (to_test _ _ low) (to_test _ _ high)

passes : (z : ℤ) → is_in_range z ≡ true → if_passes is_in_range (Some z) ≡ Some z
passes z e = rw e refl

-- digits behind a sign
minus : (ds : Word) (n : ℕ) → AreDigits (suc n) ds → suc n ≤ 9007199254740992 → written_score (45 ∷ ds) ≡ Some (negsuc n)
minus ds n are most =
    let none : list_any is_point (45 ∷ ds) ≡ false = pointless ds are.digits in
    let all : are_all is_ascii_digit ds ≡ true = and_from _ _ are.some are.digits in
    let range : is_in_range (negsuc n) ≡ true = in_range (negsuc n) (omega (arith, ints, most)) (omega (arith, ints)) in
    rw (none, whole (45 ∷ ds) none, all, are.number) (passes (negsuc n) range)

-- digits alone
plus : (ds : Word) (n : ℕ) → AreDigits n ds → n ≤ 9007199254740992 → written_score ds ≡ Some (pos n)
plus ds n are most =
    let all : are_all is_ascii_digit ds ≡ true = and_from _ _ are.some are.digits in
    let range : is_in_range (pos n) ≡ true = in_range (pos n) (omega (arith, ints)) (omega (arith, ints, most)) in
    sym (plain_score ds n all (sym are.number)) ∙ passes (pos n) range

signed_read : (is_negative : Bool) (n : ℕ) → n ≤ 9007199254740992 → written_score (signed_decimal (signed_by is_negative n)) ≡ Some (signed_by is_negative n)
signed_read false n most = plus (decimal n) n (decimal_digits n (omega arith)) most
signed_read true zero most = plus (decimal zero) zero (decimal_digits zero (omega arith)) most
signed_read true (suc n) most = minus (decimal (suc n)) n (decimal_digits (suc n) (omega arith)) most

-- a score is read again
pub score_read : (is_negative : Bool) (n : ℕ) (z : ℤ) → score_of is_negative n ≡ Some z → written_score (signed_decimal z) ≡ Some z
score_read is_negative n z e =
    let is = given _ _ z e in
    subst (λ (y : ℤ). written_score (signed_decimal y) ≡ Some y) is.1 (signed_read is_negative n (leb-true n 9007199254740992 is.0))

found_read : (found : Option Number) (z : ℤ) → option_and_then (λ n. whole_score (rounded n)) found ≡ Some z → written_score (signed_decimal z) ≡ Some z
found_read None z e = absurd (none-some _ e)
found_read (Some n) z e = score_read n.is_negative (rounded n).amount z (if_so _ _ z e).1

pub scores_are_read : ScoresAreRead
scores_are_read text z e =
    let read : written_score (signed_decimal z) ≡ Some z = found_read (number_in text) z (unless (is_plain text) _ z e) in
    ap (λ found. written_score (unwrap_or (option_map signed_decimal found) text)) e ∙ read
