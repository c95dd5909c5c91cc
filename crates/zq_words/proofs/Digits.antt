-- Texts of digits alone.
use Rattle.std.proofs.Common.{ap, arith, refl, sym, ◌∙◌}
use Rattle.std.proofs.lemmas.Bool.{and_parts, ltb-false}
use Rattle.std.proofs.lemmas.List.{take_all}
use Rattle.std.specs.Char.{is_ascii_digit}
use Rattle.std.specs.List.{before_first, list_all, list_any}
use Rattle.std.specs.Prelude.{Some, [], false, nat_eq, pos, true, ℕ, ◌∷◌, ◌≡◌}
use Rattle.zq_words.proofs.Positions.{list_any-place}
use Rattle.zq_words.specs.Words.{Word, are_all, if_passes, integer_of, is_in_range, is_point, number_of, written_score}

point_apart : (d : ℕ) → is_ascii_digit d ≡ true → is_point d ≡ false
point_apart d e = grind (arith, e)

plus_apart : (d : ℕ) → is_ascii_digit d ≡ true → nat_eq 43 d ≡ false
plus_apart d e = grind (arith, e)

minus_apart : (d : ℕ) → is_ascii_digit d ≡ true → nat_eq 45 d ≡ false
minus_apart d e = grind (arith, e)

-- they have no point
pointless : (text : Word) → list_all is_ascii_digit text ≡ true → list_any is_point text ≡ false
pointless [] e = refl
pointless (d ∷ ds) e = let parts = and_parts _ _ e in rw (point_apart d parts.0) (pointless ds parts.1)

whole : (text : Word) → list_any is_point text ≡ false → before_first is_point text ≡ text
whole text none = take_all _ text (ltb-false _ _ (sym (list_any-place is_point text) ∙ none))

-- nor a sign
signless : (text : Word) → are_all is_ascii_digit text ≡ true → integer_of text ≡ Some (pos (number_of text))
signless [] e = cc
signless (d ∷ ds) e =
    let first = (and_parts _ _ e).0 in
    rw (plus_apart d first, minus_apart d first, e) refl

pub plain_score : (text : Word) (amount : ℕ) → are_all is_ascii_digit text ≡ true → amount ≡ number_of text →
    if_passes is_in_range (Some (pos amount)) ≡ written_score text
plain_score text amount e is =
    let none = pointless text (and_parts _ _ e).1 in
    let read = ap (if_passes is_in_range) (signless text e) in
    ap (λ n. if_passes is_in_range (Some (pos n))) is ∙ sym read ∙ rw (none, whole text none) refl
