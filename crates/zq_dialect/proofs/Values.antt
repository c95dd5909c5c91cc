-- What the number of a text comes to.

use Rattle.std.proofs.Common.{Bool, None, Option, Some, ap, arith, cond, false, length, pos, refl, subst, suc, sym, true, zero, zero-mul, ℕ, ℤ, ◌&&◌, ◌*ℤ◌, ◌*◌, ◌++◌, ◌+◌, ◌-◌, ◌^◌, ◌||◌, ◌∙◌, ◌∷◌, ◌≡◌, [], nat_le}
use Rattle.std.proofs.lemmas.Bool.{and_from, and_parts}
use Rattle.std.proofs.lemmas.Option.{none-some, same_Some}
use Rattle.std.specs.Char.{is_ascii_digit}
use Rattle.std.specs.List.{after_first, before_first, list_all, list_any}
use Rattle.std.specs.Option.{option_and_then}
use Rattle.zq_dialect.proofs.Points.{Splits, moved_down, moved_up}
use Rattle.zq_dialect.specs.Laws.{ValuesStay, denominator, down, up}
use Rattle.zq_dialect.specs.Numbers.{Number, amount_at, digits, is_mark, no_shift, number_at, number_in, point, shift_of}
use Rattle.zq_dialect.specs.Rounded.{rounded, signed_by}
use Rattle.zq_dialect.specs.Spelled.{is_plain, whole_score}
use Rattle.zq_dialect.specs.declared.number.Shift.{Shift}
use Rattle.zq_words.specs.Words.{Word, is_nonempty, is_point, number_of, without_sign}

-- what is given where a test passes, and where it does not
pub given : {X : Type 0} (b : Bool) (x y : X) → cond b (Some x) None ≡ Some y → (b ≡ true) × (x ≡ y)
given true x y e = (refl, same_Some _ _ e)
given false x y e = absurd (none-some _ e)

pub if_so : {X : Type 0} (b : Bool) (o : Option X) (y : X) → cond b o None ≡ Some y → (b ≡ true) × (o ≡ Some y)
if_so true o y e = (refl, e)
if_so false o y e = absurd (none-some _ e)

pub unless : {X : Type 0} (b : Bool) (o : Option X) (y : X) → cond b None o ≡ Some y → o ≡ Some y
unless true o y e = absurd (none-some _ e)
unless false o y e = e

joined : (xs ys : Word) → list_all is_ascii_digit xs ≡ true → list_all is_ascii_digit ys ≡ true → list_all is_ascii_digit (xs ++ ys) ≡ true
joined [] ys e f = f
joined (x ∷ xs) ys e f = let parts = and_parts _ _ e in and_from _ _ parts.0 (joined xs ys parts.1 f)

-- a number that is read has digits alone
digits_at : (text : Word) (shift : Shift) (n : Number) → number_at text shift ≡ Some n → list_all is_ascii_digit (digits n) ≡ true
digits_at text shift n e =
    let front : Word = before_first is_point (without_sign text) in
    let back : Word = after_first is_point (without_sign text) in
    let made = given _ _ n e in
    let parts = and_parts ((is_nonempty front || is_nonempty back) && list_all is_ascii_digit front) (list_all is_ascii_digit back) made.0 in
    let whole = and_parts (is_nonempty front || is_nonempty back) (list_all is_ascii_digit front) parts.0 in
    subst (λ (m : Number). list_all is_ascii_digit (digits m) ≡ true) made.1 (joined front back whole.1 parts.1)

digits_by : (short marked : Bool) (front text : Word) (shift : Option Shift) (n : Number) →
    cond short (cond marked (option_and_then (number_at front) shift) (number_at text no_shift)) None ≡ Some n → list_all is_ascii_digit (digits n) ≡ true
digits_by false marked front text shift n e = absurd (none-some _ e)
digits_by true true front text None n e = absurd (none-some _ e)
digits_by true true front text (Some shift) n e = digits_at front shift n e
digits_by true false front text shift n e = digits_at text no_shift n e

digits_in : (text : Word) (n : Number) → number_in text ≡ Some n → list_all is_ascii_digit (digits n) ≡ true
digits_in text n e =
    digits_by (nat_le (length text) 64) (list_any is_mark text) (before_first is_mark text) text (shift_of (after_first is_mark text)) n e

split_by : (is_down : Bool) (whole fraction : Word) (places : ℕ) → list_all is_ascii_digit (whole ++ fraction) ≡ true →
    Splits (whole ++ fraction) (cond is_down (length whole - places) (length whole + places)) (cond is_down 0 places) (length fraction + cond is_down places 0)
split_by true whole fraction places e = moved_down whole fraction places e
split_by false whole fraction places e = moved_up whole fraction places e

-- the digits of a number that is read, before and behind its point
pub split : (text : Word) (n : Number) → number_in text ≡ Some n → Splits (digits n) (point n) (up n) (down n)
split text n e = split_by n.shift.is_down n.whole n.fraction n.shift.places (digits_in text n e)

pub signed_times : (is_negative : Bool) (a k : ℕ) → signed_by is_negative a *ℤ pos k ≡ signed_by is_negative (a * k)
signed_times false a k = refl
signed_times true zero k = let none : zero * k ≡ 0 = zero-mul k in rw none refl
signed_times true (suc a) k = refl

-- a number that is whole and a score
whole_by : (n : Number) (z : ℤ) → whole_score (rounded n) ≡ Some z → ((rounded n).is_whole ≡ true) × (signed_by n.is_negative (amount_at (digits n) (point n)) ≡ z)
whole_by n z e =
    let whole = if_so _ _ z e in
    (whole.0, (given _ _ z whole.1).1)

score_by : (text : Word) (found : Option Number) (n : Number) (z : ℤ) → found ≡ Some n →
    cond (is_plain text) None (option_and_then (λ n. whole_score (rounded n)) found) ≡ Some z → whole_score (rounded n) ≡ Some z
score_by text None n z e f = absurd (none-some _ e)
score_by text (Some m) n z e f = subst (λ (k : Number). whole_score (rounded k) ≡ Some z) (same_Some _ _ e) (unless (is_plain text) _ z f)

pub values_stay : ValuesStay
values_stay text n z e f =
    let whole = whole_by n z (score_by text (number_in text) n z e f) in
    let parts = split text n e in
    let amount : ℕ = amount_at (digits n) (point n) in
    let same : number_of (digits n) * 10 ^ up n ≡ amount * 10 ^ down n = exact _ _ parts.rest parts.sum (parts.zeros whole.0) in
    ap (λ x. x *ℤ denominator n) (sym whole.1) ∙ signed_times n.is_negative amount (10 ^ down n) ∙ ap (signed_by n.is_negative) (sym same)
  where
    exact : (x y rest : ℕ) → x ≡ y + rest → rest ≡ 0 → x ≡ y
    exact x y rest e f = omega arith
