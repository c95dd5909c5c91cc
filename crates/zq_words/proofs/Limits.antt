-- Scores, bounds and pairs that words write are in range; what a reading that succeeds has read.

use Rattle.std.proofs.Common.{arith, sym, subst}
use Rattle.std.proofs.lemmas.Bool.{and_parts}
use Rattle.std.proofs.lemmas.List.Elements.{All-cons, All-head, All-nil, All-tail}
use Rattle.std.proofs.lemmas.Option.{none-some, same_Some}
use Rattle.std.specs.Int.Signed.{le_z_yes}
use Rattle.std.specs.List.{after_first, before_first, list_any}
use Rattle.std.specs.Option.{option_map}
use Rattle.std.specs.Prelude.{T, int_le, All, Bool, Err, List, None, Ok, Option, Some, [], cond, drop, false, length, not, refl, true, ℤ, ◌&&◌, ◌∷◌, ◌≡◌, ◌≤◌, ◌≤ℤ◌}
use Rattle.zq_model.specs.Operation.{IsWithin, MOST}
use Rattle.zq_words.specs.Bounds.{bound_at, bound_of, limit_of}
use Rattle.zq_words.specs.Command.{Command, Reading, or_else, pair_onto, pairs_of}
use Rattle.zq_words.specs.Limits.{IsLimit, IsPair, IsShort, IsWithinLimits}
use Rattle.zq_words.specs.Words.{Word, are_all, if_passes, integer_of, is_in_range, is_point, is_zero, written_score}
use Rattle.zq_words.specs.declared.bound.Bound.{Bound}
use Rattle.zq_words.specs.declared.bound.Limit.{Limit}
use Rattle.zq_words.specs.declared.bound.Limit.TheVariants.{At, Highest, Lowest}
use Rattle.zq_words.specs.declared.refused.Refused.{Refused}

pub ok_eq : {x y : Command} → ◌≡◌ {A = Reading} (Ok x) (Ok y) → x ≡ y
ok_eq e = cc

pub err_ok : {x : Refused} {y : Command} → ◌≡◌ {A = Reading} (Err x) (Ok y) → ⊥
err_ok e = cc

-- what passed the test passes it
pub passed : (p : ℤ → Bool) (o : Option ℤ) (z : ℤ) → if_passes p o ≡ Some z → p z ≡ true
passed p None z e = absurd (none-some _ e)
passed p (Some y) z e = by (p y) refl e
  where
    by : (b : Bool) → p y ≡ b → cond b (Some y) None ≡ Some z → p z ≡ true
    by true is f = subst (λ x. p x ≡ true) (same_Some _ _ f) is
    by false is f = absurd (none-some _ f)

unless : {X : Type 0} (b : Bool) (o : Option X) (x : X) → cond b None o ≡ Some x → o ≡ Some x
unless true o x e = absurd (none-some _ e)
unless false o x e = e

pub from_test : {x y : ℤ} → int_le x y ≡ true → x ≤ℤ y
from_test e = le_z_yes (subst T (sym e) tt)

-- a score that a text writes is in range
pub score_within : (text : Word) (z : ℤ) → written_score text ≡ Some z → IsWithin MOST z
score_within text z e =
    let inside = passed is_in_range (integer_of (before_first is_point text)) z (unless (list_any is_point text && not (are_all is_zero (after_first is_point text))) _ z e) in
    let both = and_parts _ _ inside in
    (from_test both.0, from_test both.1)

at_within : (text : Word) (score : Option ℤ) (limit : Limit) → ((z : ℤ) → score ≡ Some z → IsWithin MOST z) → option_map At score ≡ Some limit → IsLimit limit
at_within text None limit within e = absurd (none-some _ e)
at_within text (Some z) limit within e = subst IsLimit (same_Some _ _ e) (within z refl)

limit_within : (text : Word) (low high : Bool) (limit : Limit) → cond low (Some Lowest) (cond high (Some Highest) (option_map At (written_score text))) ≡ Some limit → IsLimit limit
limit_within text true high limit e = subst IsLimit (same_Some _ _ e) tt
limit_within text false true limit e = subst IsLimit (same_Some _ _ e) tt
limit_within text false false limit e = at_within text (written_score text) limit (score_within text) e

bound_made : (is_out : Bool) (found : Option Limit) (bound : Bound) → ((limit : Limit) → found ≡ Some limit → IsLimit limit) →
    option_map (bound_at is_out) found ≡ Some bound → IsLimit bound.limit
bound_made is_out None bound within e = absurd (none-some _ e)
bound_made is_out (Some limit) bound within e = subst (λ b. IsLimit b.limit) (same_Some _ _ e) (within limit refl)

bound_either : (is_out : Bool) (inner text : Word) (bound : Bound) →
    cond is_out (option_map (bound_at true) (limit_of inner)) (option_map (bound_at false) (limit_of text)) ≡ Some bound → IsLimit bound.limit
bound_either true inner text bound e = bound_made true (limit_of inner) bound (limit_within inner _ _) e
bound_either false inner text bound e = bound_made false (limit_of text) bound (limit_within text _ _) e

-- the score of a bound that a text writes is in range
pub bound_within : (text : Word) (bound : Bound) → bound_of text ≡ Some bound → IsLimit bound.limit
bound_within text bound e = bound_either _ (drop 1 text) text bound e

onto : (s : Option ℤ) (m : Word) (ps : Option (List (ℤ × Word))) (pairs : List (ℤ × Word)) → pair_onto s m ps ≡ Some pairs →
    (z : ℤ) × (rest : List (ℤ × Word)) × (s ≡ Some z) × (ps ≡ Some rest) × ((z, m) ∷ rest ≡ pairs)
onto (Some z) m (Some rest) pairs e = (z, rest, refl, refl, same_Some _ _ e)
onto (Some z) m None pairs e = absurd (none-some _ e)
onto None m ps pairs e = absurd (none-some _ e)

pub pairs_within : (words : List Word) (pairs : List (ℤ × Word)) → All IsShort words → pairs_of words ≡ Some pairs → All IsPair pairs × (length pairs ≤ length words)
pairs_within [] pairs short e = subst (λ ps. All IsPair ps × (length ps ≤ 0)) (same_Some _ _ e) (All-nil IsPair, omega arith)
pairs_within (a ∷ []) pairs short e = subst (λ ps. All IsPair ps × (length ps ≤ 1)) (same_Some _ _ e) (All-nil IsPair, omega arith)
pairs_within (a ∷ m ∷ words) pairs short e =
    let parts = onto (written_score a) m (pairs_of words) pairs e in
    let after = All-tail IsShort a (m ∷ words) short in
    let rest = pairs_within words parts.1 (All-tail IsShort m words after) parts.3 in
    subst (λ ps. All IsPair ps × (length ps ≤ length (a ∷ m ∷ words))) parts.4
    (All-cons IsPair (parts.0, m) parts.1 (score_within a parts.0 parts.2, All-head IsShort m words after) rest.0, omega (arith, rest.1))

pub else_ok : {X : Type 0} (r : Refused) (o : Option X) (f : X → Reading) (c : Command) → or_else r o f ≡ Ok c → (x : X) × (o ≡ Some x) × (f x ≡ Ok c)
else_ok r None f c e = absurd (err_ok e)
else_ok r (Some x) f c e = (x, refl, e)

pub if_not : (b : Bool) (r : Refused) (reading : Reading) (c : Command) → cond b (Err r) reading ≡ Ok c → (b ≡ false) × (reading ≡ Ok c)
if_not true r reading c e = absurd (err_ok e)
if_not false r reading c e = (refl, e)

pub is_that : (d c : Command) → IsWithinLimits d → ◌≡◌ {A = Reading} (Ok d) (Ok c) → IsWithinLimits c
is_that d c within e = subst IsWithinLimits (ok_eq e) within
