-- Bounds that are rounded inwards.

use Rattle.std.proofs.Common.{Bool, None, Option, Some, ap, add-mul, arith, codes, cond, false, nat_le, neg_ℤ, one-mul, pos, refl, subst, sym, true, ℕ, ℤ, ◌&&◌, ◌*ℤ◌, ◌*◌, ◌+◌, ◌<◌, ◌^◌, ◌∙◌, ◌≡◌, ◌≤ℤ◌, ◌↔◌, pos_of_ne-zero, option_map}
use Rattle.std.proofs.lemmas.Bool.{true≢false}
use Rattle.std.proofs.lemmas.Int.{ints}
use Rattle.std.proofs.lemmas.Option.{none-some, same_Some}
use Rattle.std.specs.Option.{option_and_then}
use Rattle.zq_dialect.proofs.Numerals.{tens_positive}
use Rattle.zq_dialect.proofs.Sides.{between_greatest, between_least, whole_inside}
use Rattle.zq_dialect.proofs.Values.{signed_times, split, unless}
use Rattle.zq_dialect.specs.Laws.{BoundsTakeTheSame, IsInside, denominator, down, numerator, up}
use Rattle.zq_dialect.specs.Numbers.{Number, digits, number_in}
use Rattle.zq_dialect.specs.Rounded.{inward, rounded, score_of, signed_by}
use Rattle.zq_dialect.specs.Spelled.{bound_at, is_plain, limit_in, without_paren}
use Rattle.zq_dialect.specs.declared.bounds.NewBound.{NewBound}
use Rattle.zq_dialect.specs.declared.rounded.Rounded.{Rounded}
use Rattle.zq_words.specs.Words.{begins, number_of}

-- a value of a times k and a rest, and whether it is whole
record Parts (is_whole : Bool) (value a rest k : ℕ) : Type 0 where
  sum : value ≡ a * k + rest
  small : rest < k
  whole : is_whole ≡ true → rest ≡ 0
  broken : is_whole ≡ false → 0 < rest

one_more : (a k : ℕ) → (a + 1) * k ≡ a * k + k
one_more a k = add-mul a 1 k ∙ ap (λ n. a * k + n) (one-mul k)

-- both take the same
abbrev Same : (is_least is_out is_negative is_whole : Bool) (value a k : ℕ) (z : ℤ) → Type 0
Same is_least is_out is_negative is_whole value a k z =
    IsInside is_least (is_out && is_whole) (signed_by is_negative (inward is_least (record { is_negative = is_negative; amount = a; is_whole = is_whole }))) z
    ↔ IsInside is_least is_out (signed_by is_negative value) (z *ℤ pos k)

exact : (is_least is_out is_negative : Bool) (value a k : ℕ) (z : ℤ) → 0 < k → value ≡ a * k → Same is_least is_out is_negative true value a k z
exact is_least true is_negative value a k z some e =
    let same : signed_by is_negative a *ℤ pos k ≡ signed_by is_negative value = signed_times is_negative a k ∙ ap (signed_by is_negative) (sym e) in
    subst (λ (number : ℤ). IsInside is_least true (signed_by is_negative a) z ↔ IsInside is_least true number (z *ℤ pos k)) same
    (whole_inside is_least true (signed_by is_negative a) z k some)
exact is_least false is_negative value a k z some e =
    let same : signed_by is_negative a *ℤ pos k ≡ signed_by is_negative value = signed_times is_negative a k ∙ ap (signed_by is_negative) (sym e) in
    subst (λ (number : ℤ). IsInside is_least false (signed_by is_negative a) z ↔ IsInside is_least false number (z *ℤ pos k)) same
    (whole_inside is_least false (signed_by is_negative a) z k some)

-- a number that is not whole lies between two that are
broken : (is_least is_out is_negative : Bool) (value a rest k : ℕ) (z : ℤ) → value ≡ a * k + rest → rest < k → 0 < rest →
    Same is_least is_out is_negative false value a k z
broken true is_out false value a rest k z e small some =
    let product : pos (a + 1) *ℤ pos k ≡ pos (a * k + k) = ap pos (one_more a k) in
    lowered is_out (between_least is_out (pos (a + 1)) z (pos value) k (rw product (omega (arith, ints, e, small))) (rw product (omega (arith, ints, e, some))))
  where
    lowered : (is_out : Bool) → ((pos (a + 1) ≤ℤ z) ↔ IsInside true is_out (pos value) (z *ℤ pos k)) → Same true is_out false false value a k z
    lowered true same = same
    lowered false same = same
broken true is_out true value a rest k z e small some =
    let product : neg_ℤ (pos a) *ℤ pos k ≡ neg_ℤ (pos (a * k)) = signed_times true a k in
    lowered is_out (between_least is_out (neg_ℤ (pos a)) z (neg_ℤ (pos value)) k (rw product (omega (arith, ints, e, some))) (rw product (omega (arith, ints, e, small))))
  where
    lowered : (is_out : Bool) → ((neg_ℤ (pos a) ≤ℤ z) ↔ IsInside true is_out (neg_ℤ (pos value)) (z *ℤ pos k)) → Same true is_out true false value a k z
    lowered true same = same
    lowered false same = same
broken false is_out false value a rest k z e small some =
    let product : pos a *ℤ pos k ≡ pos (a * k) = refl in
    lowered is_out (between_greatest is_out (pos a) z (pos value) k (omega (arith, ints, e, some)) (omega (arith, ints, e, small)))
  where
    lowered : (is_out : Bool) → ((z ≤ℤ pos a) ↔ IsInside false is_out (pos value) (z *ℤ pos k)) → Same false is_out false false value a k z
    lowered true same = same
    lowered false same = same
broken false is_out true value a rest k z e small some =
    let product : neg_ℤ (pos (a + 1)) *ℤ pos k ≡ neg_ℤ (pos (a * k + k)) = signed_times true (a + 1) k ∙ ap (λ n. neg_ℤ (pos n)) (one_more a k) in
    lowered is_out (between_greatest is_out (neg_ℤ (pos (a + 1))) z (neg_ℤ (pos value)) k (rw product (omega (arith, ints, e, small))) (rw product (omega (arith, ints, e, some))))
  where
    lowered : (is_out : Bool) → ((z ≤ℤ neg_ℤ (pos (a + 1))) ↔ IsInside false is_out (neg_ℤ (pos value)) (z *ℤ pos k)) → Same false is_out true false value a k z
    lowered true same = same
    lowered false same = same

same_by : (is_least is_out is_negative is_whole : Bool) (value a rest k : ℕ) (z : ℤ) → 0 < k → Parts is_whole value a rest k →
    Same is_least is_out is_negative is_whole value a k z
same_by is_least is_out is_negative true value a rest k z some parts =
    let none : rest ≡ 0 = parts.whole refl in
    let all : value ≡ a * k + rest = parts.sum in
    exact is_least is_out is_negative value a k z some (omega arith)
same_by is_least is_out is_negative false value a rest k z some parts =
    broken is_least is_out is_negative value a rest k z parts.sum parts.small (parts.broken refl)

-- the bound that stands for a number
bound_by : (is_out is_whole is_negative : Bool) (n : ℕ) (bound : NewBound) → option_map (bound_at (is_out && is_whole)) (score_of is_negative n) ≡ Some bound →
    bound ≡ bound_at (is_out && is_whole) (signed_by is_negative n)
bound_by is_out is_whole is_negative n bound e = by (nat_le n 9007199254740992) e
  where
    by : (b : Bool) → option_map (bound_at (is_out && is_whole)) (cond b (Some (signed_by is_negative n)) None) ≡ Some bound → bound ≡ bound_at (is_out && is_whole) (signed_by is_negative n)
    by true e = sym (same_Some _ _ e)
    by false e = absurd (none-some _ e)

found_by : (is_plain is_out is_least : Bool) (found : Option Number) (n : Number) (bound : NewBound) → found ≡ Some n →
    cond is_plain None (option_and_then (λ n. limit_in is_out is_least (rounded n)) found) ≡ Some bound → limit_in is_out is_least (rounded n) ≡ Some bound
found_by plain is_out is_least None n bound e f = absurd (none-some _ e)
found_by plain is_out is_least (Some m) n bound e f =
    subst (λ (k : Number). limit_in is_out is_least (rounded k) ≡ Some bound) (same_Some _ _ e) (unless plain _ bound f)

some_left : (b : Bool) (rest : ℕ) → (rest ≡ 0 → b ≡ true) → b ≡ false → 0 < rest
some_left b rest none e = pos_of_ne-zero (λ zero. true≢false (sym (none zero) ∙ e))

pub bounds_take_the_same : BoundsTakeTheSame
bounds_take_the_same is_least text n bound e f z =
    let is_out : Bool = begins text (codes "(") in
    let r : Rounded = rounded n in
    let found : limit_in is_out is_least r ≡ Some bound = found_by (is_plain (without_paren text)) is_out is_least (number_in (without_paren text)) n bound e f in
    let is : bound ≡ bound_at (is_out && r.is_whole) (signed_by n.is_negative (inward is_least r)) = bound_by is_out r.is_whole n.is_negative (inward is_least r) bound found in
    let parts = split (without_paren text) n e in
    let each : Parts r.is_whole (number_of (digits n) * 10 ^ up n) r.amount parts.rest (10 ^ down n) = record {
      sum = parts.sum;
      small = parts.small;
      whole = parts.zeros;
      broken = some_left r.is_whole parts.rest parts.none;
    } in
    subst (λ (b : NewBound). IsInside is_least b.is_out b.limit z ↔ IsInside is_least is_out (numerator n) (z *ℤ denominator n)) (sym is)
    (same_by is_least is_out n.is_negative r.is_whole (number_of (digits n) * 10 ^ up n) r.amount parts.rest (10 ^ down n) z (tens_positive (down n)) each)
