-- Words that stay, and words that do not.

use Rattle.std.proofs.Common.{Bool, List, None, Option, Some, [], ap, arith, cond, drop, false, is_some, nat_eq, not, option_map, refl, subst, suc, sym, take, take-append-drop, true, zero, ℕ, ℤ, ◌&&◌, ◌++◌, ◌||◌, ◌∙◌, ◌∷◌, ◌≡◌, codes, decimal, ◌≤◌}
use Rattle.std.proofs.lemmas.Bool.{and_parts, or_parts, true≢false, leb-true}
use Rattle.std.proofs.lemmas.List.{append_cancel_left}
use Rattle.std.proofs.lemmas.Option.{none-some, same_Some}
use Rattle.std.specs.Char.{is_ascii_digit}
use Rattle.std.specs.Fmt.{signed_decimal}
use Rattle.std.specs.List.{after_first, before_first, list_all, list_any}
use Rattle.std.specs.Option.{option_and_then}
use Rattle.std.specs.Prelude.{unwrap_or}
use Rattle.zq_dialect.proofs.Values.{given, unless}
use Rattle.zq_dialect.proofs.Written.{decimal_digits, score_read, scores_are_read}
use Rattle.zq_dialect.specs.Numbers.{Number, number_in}
use Rattle.zq_dialect.specs.Rounded.{inward, rounded, score_of, signed_by}
use Rattle.zq_dialect.specs.Said.{before_scores, is_new_end, plain_end, plain_zadd}
use Rattle.zq_dialect.specs.Spelled.{bound_at, bound_text, has_new, is_plain, limit_in, new_bound, new_score, plain_pairs, plain_score, without_paren}
use Rattle.zq_dialect.specs.declared.bounds.NewBound.{NewBound}
use Rattle.zq_words.specs.Words.{Word, are_all, begins, if_passes, is_in_range, is_point, is_zero, signed, number_of, without_sign, written_score}

-- what is no score's form is read as none
unread_by : (point zeros digits : Bool) (z : ℤ) → ((not point || zeros) && digits) ≡ false →
    cond (point && not zeros) None (if_passes is_in_range (cond digits (Some z) None)) ≡ None
unread_by true true true z e = absurd (true≢false e)
unread_by true true false z e = refl
unread_by true false digits z e = refl
unread_by false zeros true z e = absurd (true≢false e)
unread_by false zeros false z e = refl

unread : (text : Word) → is_plain text ≡ false → written_score text ≡ None
unread text e =
    let front : Word = before_first is_point text in
    unread_by (list_any is_point text) (are_all is_zero (after_first is_point text)) (are_all is_ascii_digit (without_sign front))
    (signed front (number_of (without_sign front))) e

pub read_plain : (text : Word) (z : ℤ) → written_score text ≡ Some z → is_plain text ≡ true
read_plain text z e = by (is_plain text) refl
  where
    by : (b : Bool) → is_plain text ≡ b → is_plain text ≡ true
    by true f = f
    by false f = absurd (none-some _ (sym (unread text f) ∙ e))

unplain : {X : Type 0} (b : Bool) (o : Option X) (x : X) → cond b None o ≡ Some x → b ≡ false
unplain true o x e = absurd (none-some _ e)
unplain false o x e = refl

-- a score that is rewritten is another text
kept_by : (text : Word) (found : Option ℤ) → is_some found ≡ false → unwrap_or (option_map signed_decimal found) text ≡ text
kept_by text None e = refl
kept_by text (Some z) e = absurd (true≢false e)

pub kept_score : (text : Word) → is_some (new_score text) ≡ false → plain_score text ≡ text
kept_score text e = kept_by text (new_score text) e

other_by : (text : Word) (found : Option ℤ) → new_score text ≡ found → is_some found ≡ true → plain_score text ≡ text → ⊥
other_by text None e f g = true≢false (sym f)
other_by text (Some z) e f g =
    let plain : is_plain text ≡ true = read_plain text z (ap written_score (sym g) ∙ scores_are_read text z e) in
    true≢false (sym plain ∙ unplain (is_plain text) _ z e)

pub other_score : (text : Word) → is_some (new_score text) ≡ true → plain_score text ≡ text → ⊥
other_score text e f = other_by text (new_score text) refl e f

-- a bound that is rewritten is another text
no_paren : (ds : Word) → list_all is_ascii_digit ds ≡ true → begins ds (codes "(") ≡ false
no_paren [] e = refl
no_paren (d ∷ ds) e = let apart : nat_eq 40 d ≡ false = digit_apart d (and_parts _ _ e).0 in rw apart refl
  where
    digit_apart : (d : ℕ) → is_ascii_digit d ≡ true → nat_eq 40 d ≡ false
    digit_apart d e = grind (arith, e)

signed_apart : (is_negative : Bool) (n : ℕ) → n ≤ 9007199254740992 → begins (signed_decimal (signed_by is_negative n)) (codes "(") ≡ false
signed_apart false n h = no_paren (decimal n) (decimal_digits n (omega arith)).digits
signed_apart true zero h = no_paren (decimal zero) (decimal_digits zero (omega arith)).digits
signed_apart true (suc n) h = refl

spelled_apart : (is_negative : Bool) (n : ℕ) (z : ℤ) → score_of is_negative n ≡ Some z → begins (signed_decimal z) (codes "(") ≡ false
spelled_apart is_negative n z e =
    let is = given _ _ z e in
    subst (λ (y : ℤ). begins (signed_decimal y) (codes "(") ≡ false) is.1 (signed_apart is_negative n (leb-true n 9007199254740992 is.0))

-- what stands behind the parenthesis of a bound that is written
inside : (bound : NewBound) → begins (signed_decimal bound.limit) (codes "(") ≡ false → without_paren (bound_text bound) ≡ signed_decimal bound.limit
inside bound e = by bound.is_out
  where
    by : (b : Bool) → without_paren (cond b (40 ∷ signed_decimal bound.limit) (signed_decimal bound.limit)) ≡ signed_decimal bound.limit
    by true = refl
    by false = rw e refl

pub limit_by : (is_out : Bool) (score : Option ℤ) (bound : NewBound) → option_map (bound_at is_out) score ≡ Some bound → score ≡ Some bound.limit
limit_by is_out None bound e = absurd (none-some _ e)
limit_by is_out (Some z) bound e = ap (λ (b : NewBound). Some b.limit) (same_Some _ _ e)

bound_found : (is_out is_least : Bool) (found : Option Number) (bound : NewBound) → option_and_then (λ n. limit_in is_out is_least (rounded n)) found ≡ Some bound →
    (written_score (signed_decimal bound.limit) ≡ Some bound.limit) × (begins (signed_decimal bound.limit) (codes "(") ≡ false)
bound_found is_out is_least None bound e = absurd (none-some _ e)
bound_found is_out is_least (Some n) bound e =
    let score = limit_by _ (score_of n.is_negative (inward is_least (rounded n))) bound e in
    (score_read n.is_negative (inward is_least (rounded n)) bound.limit score, spelled_apart n.is_negative (inward is_least (rounded n)) bound.limit score)

kept_bound_by : (text : Word) (found : Option NewBound) → is_some found ≡ false → unwrap_or (option_map bound_text found) text ≡ text
kept_bound_by text None e = refl
kept_bound_by text (Some bound) e = absurd (true≢false e)

other_bound_by : (is_least : Bool) (text : Word) (found : Option NewBound) → new_bound is_least text ≡ found → is_some found ≡ true →
    unwrap_or (option_map bound_text found) text ≡ text → ⊥
other_bound_by is_least text None e f g = true≢false (sym f)
other_bound_by is_least text (Some bound) e f g =
    let read = bound_found (begins text (codes "(")) is_least (number_in (without_paren text)) bound (unless (is_plain (without_paren text)) _ bound e) in
    let body : signed_decimal bound.limit ≡ without_paren text = sym (inside bound read.1) ∙ ap without_paren g in
    let plain : is_plain (without_paren text) ≡ true = subst (λ (w : Word). is_plain w ≡ true) body (read_plain (signed_decimal bound.limit) bound.limit read.0) in
    true≢false (sym plain ∙ unplain (is_plain (without_paren text)) _ bound e)

-- an end of a range
pub kept_end : (by_score is_least : Bool) (text : Word) → is_new_end by_score is_least text ≡ false → plain_end by_score is_least text ≡ text
kept_end true is_least text e = kept_bound_by text (new_bound is_least text) e
kept_end false is_least text e = refl

pub other_end : (by_score is_least : Bool) (text : Word) → is_new_end by_score is_least text ≡ true → plain_end by_score is_least text ≡ text → ⊥
other_end true is_least text e f = other_bound_by is_least text (new_bound is_least text) refl e f
other_end false is_least text e f = true≢false (sym e)

first_of : {X : Type 0} {x y : X} {xs ys : List X} → x ∷ xs ≡ y ∷ ys → x ≡ y
first_of e = cc

others_of : {X : Type 0} {x y : X} {xs ys : List X} → x ∷ xs ≡ y ∷ ys → xs ≡ ys
others_of e = cc

-- pairs
pub kept_pairs : (words : List Word) → has_new words ≡ false → plain_pairs words ≡ words
kept_pairs [] e = refl
kept_pairs (score ∷ []) e = refl
kept_pairs (score ∷ member ∷ words) e =
    let parts = or_parts _ _ e in
    let first : plain_score score ≡ score = kept_score score parts.0 in
    let rest : plain_pairs words ≡ words = kept_pairs words parts.1 in
    rw (first, rest) refl

pub other_pairs : (words : List Word) → has_new words ≡ true → plain_pairs words ≡ words → ⊥
other_pairs [] e f = true≢false (sym e)
other_pairs (score ∷ []) e f = true≢false (sym e)
other_pairs (score ∷ member ∷ words) e f = by (is_some (new_score score)) refl e (λ g. other_pairs words g (others_of (others_of f)))
  where
    by : (b : Bool) → is_some (new_score score) ≡ b → (b || has_new words) ≡ true → (has_new words ≡ true → ⊥) → ⊥
    by true is g rest = other_score score is (first_of f)
    by false is g rest = rest g

-- the words of ZADD
pub kept_zadd : (words : List Word) → has_new (drop (before_scores words) words) ≡ false → plain_zadd words ≡ words
kept_zadd words e =
    ap (λ pairs. take (before_scores words) words ++ pairs) (kept_pairs (drop (before_scores words) words) e) ∙ take-append-drop (before_scores words) words

pub other_zadd : (words : List Word) → has_new (drop (before_scores words) words) ≡ true → plain_zadd words ≡ words → ⊥
other_zadd words e f =
    other_pairs (drop (before_scores words) words) e
    (append_cancel_left (take (before_scores words) words) _ _ (f ∙ sym (take-append-drop (before_scores words) words)))
