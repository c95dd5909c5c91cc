-- Texts that are split at a byte or at a place.

use Rattle.std.proofs.Common.{Bool, None, drop-drop, option_and_then, Some, [], ap, arith, drop, false, length, length-take, refl, suc, take, true, zero, ℕ, ◌&&◌, ◌++◌, ◌+◌, ◌-◌, ◌∙◌, ◌∷◌, ◌≡◌, ◌≤◌, sym, position}
use Rattle.std.proofs.lemmas.Bool.{cond-true, le-leb}
use Rattle.std.proofs.lemmas.List.{drop_all}
use Rattle.std.specs.List.{after_first, before_first, list_all, list_any, position_or_len}
use Rattle.zq_dialect.specs.Numbers.{is_mark, number_at, number_in, shift_of}
use Rattle.zq_words.proofs.Positions.{passes_at, passes_nowhere}
use Rattle.zq_words.specs.Words.{Word, is_zero}

-- no byte passes
pub unsplit : (p : ℕ → Bool) (text : Word) → position p text ≡ None →
    (list_any p text ≡ false) × (before_first p text ≡ text) × (after_first p text ≡ [])
unsplit p text e = let f = passes_nowhere p text e in (f.0, f.1, drop_all _ text (past (position_or_len p text) text f.1))
  where
    past : (n : ℕ) (text : Word) → take n text ≡ text → length text ≤ n + 1
    past n text e = let size : length (take n text) ≡ length text = ap length e in omega (arith, length-take n text)

-- the byte at this place is the first that passes
pub split_at : (p : ℕ → Bool) (text : Word) (i : ℕ) → position p text ≡ Some i →
    (list_any p text ≡ true) × (before_first p text ≡ take i text) × (after_first p text ≡ drop (i + 1) text)
split_at p text i e = let f = passes_at p text i e in (f.0, ap (λ n. take n text) f.1, ap (λ n. drop (n + 1) text) f.1)

and_assoc : (a b c : Bool) → (a && (b && c)) ≡ ((a && b) && c)
and_assoc true b c = refl
and_assoc false b c = refl

zeros_joined : (xs ys : Word) → list_all is_zero (xs ++ ys) ≡ (list_all is_zero xs && list_all is_zero ys)
zeros_joined [] ys = refl
zeros_joined (x ∷ xs) ys = ap (λ b. is_zero x && b) (zeros_joined xs ys) ∙ and_assoc (is_zero x) (list_all is_zero xs) (list_all is_zero ys)

-- zeros behind a place in two texts
pub zeros_behind : (n : ℕ) (xs ys : Word) → list_all is_zero (drop n (xs ++ ys)) ≡ (list_all is_zero (drop n xs) && list_all is_zero (drop (n - length xs) ys))
zeros_behind zero xs ys =
    let none : zero - length xs ≡ zero = omega arith in
    zeros_joined xs ys ∙ ap (λ k. list_all is_zero xs && list_all is_zero (drop k ys)) (sym none)
zeros_behind (suc n) [] ys = let all : suc n - length {A = ℕ} [] ≡ suc n = omega arith in ap (λ k. list_all is_zero (drop k ys)) (sym all)
zeros_behind (suc n) (x ∷ xs) ys =
    let less : n - length xs ≡ suc n - length (x ∷ xs) = omega arith in
    zeros_behind n xs ys ∙ ap (λ k. list_all is_zero (drop n xs) && list_all is_zero (drop k ys)) less

-- a text and its exponent
pub number_marked : (text front back : Word) (mark : ℕ) → length text ≤ 64 → position is_mark text ≡ Some mark → front ≡ take mark text → back ≡ drop mark text →
    option_and_then (number_at front) (shift_of (drop 1 back)) ≡ number_in text
number_marked text front back mark h e f g =
    let s = split_at is_mark text mark e in
    let tail : drop 1 back ≡ after_first is_mark text = ap (drop 1) g ∙ drop-drop 1 mark text ∙ sym s.2 in
    ap (λ (w : Word). option_and_then (number_at w) (shift_of (drop 1 back))) (f ∙ sym s.1)
    ∙ ap (λ (w : Word). option_and_then (number_at (before_first is_mark text)) (shift_of w)) tail
    ∙ sym (cond-true _ _ _ (le-leb (length text) 64 h) ∙ cond-true _ _ _ s.0)
