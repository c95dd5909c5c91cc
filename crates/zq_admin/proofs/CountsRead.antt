-- The number of keys that is read is the one that the digits write.
use Rattle.std.proofs.Common.{◌≡◌, ◌≤◌, ◌<◌, ◌^◌, ◌&&◌, ◌∙◌, ℕ, true, leb, List, [], ◌∷◌, length, Some, None, Result, Ok, Err, refl, sym, ap, arith, inl, inr}
use Rattle.std.proofs.lemmas.Bool.{and_parts, cases_Bool, leb-true}
use Rattle.std.proofs.lemmas.Str.Parse.{IsNumeralModel, numerals_by_value, parse_digits, tells_all_ascii_digits}
use Rattle.std.specs.Char.{is_ascii_digit}
use Rattle.std.specs.List.{list_all}
use Rattle.std.specs.Result.{OkIff, result_ok}
use Rattle.std.specs.Str.{all_ascii_digits}
use Rattle.std.specs.Str.Parse.{ParsesUnsigned, digits_value}
use Rattle.zq_admin.specs.Counts.{bounded, count_of}

-- decimal digits
decimals : IsNumeralModel (λ ds. all_ascii_digits ds ≡ true) (digits_value 10)
decimals = numerals_by_value (λ ds. all_ascii_digits ds ≡ true) tells_all_ascii_digits

all_digits : (text : List ℕ) → list_all is_ascii_digit text ≡ all_ascii_digits text
all_digits [] = refl
all_digits (c ∷ cs) = ap (λ b. is_ascii_digit c && b) (all_digits cs)

some_digits : (text : List ℕ) → 1 ≤ digits_value 10 text → 0 < length text
some_digits [] low = absurd (omega (arith, low))
some_digits (c ∷ cs) low = omega arith

read_digits : {E : Type 0} (text : List ℕ) (r : Result ℕ E) → ParsesUnsigned 64 10 text r → list_all is_ascii_digit text ≡ true → OkIff r ((0 < length text) × (digits_value 10 text < 2 ^ 64)) (digits_value 10 text)
read_digits text r parsed digits = parse_digits decimals 64 text r parsed (sym (all_digits text) ∙ digits)

pub count_read : {E : Type 0} (text : List ℕ) (n : ℕ) (r : Result ℕ E) → ParsesUnsigned 64 10 text r → list_all is_ascii_digit text ≡ true → result_ok r ≡ Some n → bounded n ≡ count_of text
count_read {E = E} text n (Ok m) parsed digits is =
    let same : n ≡ m = cc in
    let value : m ≡ digits_value 10 text = (read_digits {E = E} text (Ok m) parsed digits).1 in
    rw (same, value, digits)
count_read text n (Err e) parsed digits is = cc

pub count_unread : {E : Type 0} (text : List ℕ) (r : Result ℕ E) → ParsesUnsigned 64 10 text r → list_all is_ascii_digit text ≡ true → result_ok r ≡ None → None ≡ count_of text
count_unread text (Ok m) parsed digits is = cc
count_unread {E = E} text (Err e) parsed digits is =
    let none = read_digits {E = E} text (Err e) parsed digits in
    elim (cases_Bool (leb 1 (digits_value 10 text) && leb (digits_value 10 text) 1000)) [
      | inl within ↦
          let both = and_parts (leb 1 (digits_value 10 text)) (leb (digits_value 10 text) 1000) within in
          let low : 1 ≤ digits_value 10 text = leb-true 1 (digits_value 10 text) both.0 in
          let high : digits_value 10 text ≤ 1000 = leb-true (digits_value 10 text) 1000 both.1 in
          absurd (none (some_digits text low, omega (arith, high)))
      | inr other ↦ rw (digits, other)
    ]
