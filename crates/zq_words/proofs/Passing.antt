-- Numbers that pass a test.

use Rattle.std.proofs.Common.{ap, arith, ◌∙◌}
use Rattle.std.proofs.lemmas.Bool.{and_parts}
use Rattle.std.proofs.lemmas.Int.{ints}
use Rattle.std.proofs.lemmas.Option.{same_Some}
use Rattle.std.specs.Prelude.{Bool, None, Option, Some, cond, false, int_le, neg_ℤ, pos, refl, true, ℤ, ◌&&◌, ◌^◌, ◌-◌, ◌≡◌, ◌≤ℤ◌}
use Rattle.zq_model.proofs.Rising.{is_true}
use Rattle.zq_words.proofs.Limits.{from_test}
use Rattle.zq_words.specs.Words.{Word, if_passes, integer_of, is_i64, is_in_range}

to_test : (x y : ℤ) → x ≤ℤ y → int_le x y ≡ true
to_test x y h = is_true (int_le x y) h.le

both : (a b : Bool) → a ≡ true → b ≡ true → (a && b) ≡ true
both a b e f = rw (e, f) refl

-- an i64 holds each score
is_wide : (z : ℤ) → is_in_range z ≡ true → is_i64 z ≡ true
is_wide z e =
    let parts = and_parts _ _ e in
    let low : neg_ℤ (pos 9007199254740992) ≤ℤ z = from_test parts.0 in
    let high : z ≤ℤ pos 9007199254740992 = from_test parts.1 in
    let lower : neg_ℤ (pos (2 ^ 63)) ≤ℤ z = omega (arith, ints, low) in
    let higher : z ≤ℤ pos (2 ^ 63 - 1) = omega (arith, ints, high) in
    both _ _ (to_test _ _ lower) (to_test _ _ higher)

-- a number in range is one that an i64 holds
pub passes_both : (o : Option ℤ) → if_passes is_in_range (if_passes is_i64 o) ≡ if_passes is_in_range o
passes_both None = refl
passes_both (Some z) = by (is_i64 z) refl
  where
    by : (b : Bool) → is_i64 z ≡ b → if_passes is_in_range (cond b (Some z) None) ≡ if_passes is_in_range (Some z)
    by true e = refl
    by false e = none (is_in_range z) refl
      where
        none : (b : Bool) → is_in_range z ≡ b → None ≡ cond b (Some z) None
        none true f = cc (is_wide z f)
        none false f = refl

-- a score is the part before the point, in range
pub score_passed : (b : Bool) (front part : Word) (whole : Option ℤ) → Some part ≡ cond b None (Some front) → whole ≡ if_passes is_i64 (integer_of part) →
    if_passes is_in_range whole ≡ cond b None (if_passes is_in_range (integer_of front))
score_passed true front part whole e f = cc
score_passed false front part whole e f =
    let g : whole ≡ if_passes is_i64 (integer_of front) = f ∙ ap (λ text. if_passes is_i64 (integer_of text)) (same_Some _ _ e) in
    ap (if_passes is_in_range) g ∙ passes_both (integer_of front)
