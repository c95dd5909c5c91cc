-- Amounts that take 64 bits.

use Rattle.std.proofs.Common.{Bool, None, Option, Some, ap, arith, cond, false, inl, inr, min, option_map, refl, subst, sym, true, ℕ, ◌&&◌, ◌+◌, ◌-◌, ◌<◌, ◌^◌, ◌∙◌, ◌≡◌, ◌≤◌, ◌⊎◌}
use Rattle.std.proofs.lemmas.Bool.{cases_lt, cond-false, lt-leb}
use Rattle.std.proofs.lemmas.Option.{none-some, same_Some}
use Rattle.std.specs.Option.{option_and_then}
use Rattle.zq_dialect.specs.Numbers.{Number, number_in}
use Rattle.zq_dialect.specs.Rounded.{capped, is_away, rounded, score_of}
use Rattle.zq_dialect.specs.Spelled.{bound_at, is_plain, limit_in, new_bound, new_score, whole_score, without_paren}
use Rattle.zq_dialect.specs.declared.rounded.Rounded.{Rounded}
use Rattle.zq_words.specs.Words.{Word, begins}
use Rattle.std.specs.Prelude.{codes}

none_above : (is_negative : Bool) (n : ℕ) → 9007199254740992 < n → score_of is_negative n ≡ None
none_above is_negative n h = cond-false _ _ _ (lt-leb n 9007199254740992 h)

-- amounts from this one on are no scores
score_capped : (is_negative : Bool) (m n : ℕ) → (n < 2 ^ 64 - 1 → m ≡ n) → (2 ^ 64 - 1 ≤ n → 9007199254740992 < m) → score_of is_negative m ≡ score_of is_negative n
score_capped is_negative m n same more = elim (cases_lt n (2 ^ 64 - 1)) [
  | inl h ↦ ap (score_of is_negative) (same h)
  | inr h ↦ none_above is_negative m (more h) ∙ sym (none_above is_negative n (omega (arith, h)))
]

whole_capped : (r : Rounded) → whole_score (capped r) ≡ whole_score r
whole_capped r = by r.is_whole
  where
    by : (b : Bool) → cond b (score_of r.is_negative (min r.amount (2 ^ 64 - 1))) None ≡ cond b (score_of r.is_negative r.amount) None
    by true = score_capped r.is_negative (min r.amount (2 ^ 64 - 1)) r.amount (λ h. omega (arith, h)) (λ h. omega (arith, h))
    by false = refl

-- the same of the next amount
next_capped : (is_negative : Bool) (n : ℕ) → score_of is_negative (min n (2 ^ 64 - 1) + 1) ≡ score_of is_negative (n + 1)
next_capped is_negative n = by (cases_lt n (2 ^ 64 - 1))
  where
    by : (n < 2 ^ 64 - 1) ⊎ (2 ^ 64 - 1 ≤ n) → score_of is_negative (min n (2 ^ 64 - 1) + 1) ≡ score_of is_negative (n + 1)
    by (inl h) = let same : min n (2 ^ 64 - 1) + 1 ≡ n + 1 = omega (arith, h) in ap (score_of is_negative) same
    by (inr h) = none_above is_negative (min n (2 ^ 64 - 1) + 1) (omega (arith, h)) ∙ sym (none_above is_negative (n + 1) (omega (arith, h)))

inward_capped : (b is_negative : Bool) (n : ℕ) →
    score_of is_negative (cond b (min n (2 ^ 64 - 1) + 1) (min n (2 ^ 64 - 1))) ≡ score_of is_negative (cond b (n + 1) n)
inward_capped true is_negative n = next_capped is_negative n
inward_capped false is_negative n = score_capped is_negative (min n (2 ^ 64 - 1)) n (λ h. omega (arith, h)) (λ h. omega (arith, h))

limit_capped : (is_out is_least : Bool) (r : Rounded) → limit_in is_out is_least (capped r) ≡ limit_in is_out is_least r
limit_capped is_out is_least r = ap (option_map (bound_at (is_out && r.is_whole))) (inward_capped (is_away is_least r) r.is_negative r.amount)

score_found : (found : Option Number) (r : Rounded) → Some r ≡ option_map (λ n. capped (rounded n)) found → whole_score r ≡ option_and_then (λ n. whole_score (rounded n)) found
score_found None r e = absurd (none-some _ (sym e))
score_found (Some n) r e = ap whole_score (same_Some _ _ e) ∙ whole_capped (rounded n)

none_found : {X : Type 0} (found : Option Number) (f : Number → Option X) → None ≡ option_map (λ n. capped (rounded n)) found → None ≡ option_and_then f found
none_found None f e = refl
none_found (Some n) f e = absurd (none-some _ e)

-- the score that is written in place of a text whose number is read
pub new_score_found : (text : Word) (r : Rounded) → is_plain text ≡ false → Some r ≡ option_map (λ n. capped (rounded n)) (number_in text) → whole_score r ≡ new_score text
new_score_found text r plain e = score_found (number_in text) r e ∙ sym (cond-false _ _ _ plain)

pub no_score_found : (text : Word) → is_plain text ≡ false → None ≡ option_map (λ n. capped (rounded n)) (number_in text) → None ≡ new_score text
no_score_found text plain e = none_found (number_in text) (λ n. whole_score (rounded n)) e ∙ sym (cond-false _ _ _ plain)

limit_found : (is_out is_least : Bool) (found : Option Number) (r : Rounded) → Some r ≡ option_map (λ n. capped (rounded n)) found →
    limit_in is_out is_least r ≡ option_and_then (λ n. limit_in is_out is_least (rounded n)) found
limit_found is_out is_least None r e = absurd (none-some _ (sym e))
limit_found is_out is_least (Some n) r e = ap (limit_in is_out is_least) (same_Some _ _ e) ∙ limit_capped is_out is_least (rounded n)

-- the bound that is written in place of a text whose number is read
pub new_bound_found : (is_least : Bool) (text : Word) (r : Rounded) → is_plain (without_paren text) ≡ false →
    Some r ≡ option_map (λ n. capped (rounded n)) (number_in (without_paren text)) → limit_in (begins text (codes "(")) is_least r ≡ new_bound is_least text
new_bound_found is_least text r plain e = limit_found (begins text (codes "(")) is_least (number_in (without_paren text)) r e ∙ sym (cond-false _ _ _ plain)

pub no_bound_found : (is_least : Bool) (text : Word) → is_plain (without_paren text) ≡ false →
    None ≡ option_map (λ n. capped (rounded n)) (number_in (without_paren text)) → None ≡ new_bound is_least text
no_bound_found is_least text plain e =
    none_found (number_in (without_paren text)) (λ n. limit_in (begins text (codes "(")) is_least (rounded n)) e ∙ sym (cond-false _ _ _ plain)

pub new_bound_at : (is_least : Bool) (text number : Word) (is_out : Bool) (r : Rounded) → is_out ≡ begins text (codes "(") → number ≡ without_paren text →
    is_plain number ≡ false → Some r ≡ option_map (λ n. capped (rounded n)) (number_in number) → limit_in is_out is_least r ≡ new_bound is_least text
new_bound_at is_least text number is_out r e f plain found =
    ap (λ (b : Bool). limit_in b is_least r) e
    ∙ new_bound_found is_least text r (subst (λ (w : Word). is_plain w ≡ false) f plain)
    (subst (λ (w : Word). Some r ≡ option_map (λ n. capped (rounded n)) (number_in w)) f found)
