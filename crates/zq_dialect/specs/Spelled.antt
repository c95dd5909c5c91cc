-- Texts of scores and bounds, and those that are written in their place.
use Rattle.std.specs.Fmt.{signed_decimal}
use Rattle.std.specs.Prelude.{◌&&◌, ◌||◌, not, Bool, false, List, ℤ, ◌∷◌, drop, codes, Option, None, if◌then◌else◌, unwrap_or}
use Rattle.std.specs.Char.{is_ascii_digit}
use Rattle.std.specs.List.{after_first, before_first, list_any}
use Rattle.std.specs.Option.{is_some, option_and_then, option_map}
use Rattle.zq_dialect.specs.Numbers.{number_in}
use Rattle.zq_dialect.specs.Rounded.{inward, rounded, score_of}
use Rattle.zq_dialect.specs.declared.bounds.NewBound.{NewBound}
use Rattle.zq_dialect.specs.declared.rounded.Rounded.{Rounded}
use Rattle.zq_words.specs.Words.{Word, are_all, begins, is_point, is_zero, without_sign}

-- the form in which a score is read: a sign or none, digits, and then nothing or a point with zeros
-- behind it
abbrev pub is_plain : Word → Bool
is_plain text =
    (not (list_any is_point text) || are_all is_zero (after_first is_point text))
    && are_all is_ascii_digit (without_sign (before_first is_point text))

-- the score of a number that is whole and in range
abbrev pub whole_score : Rounded → Option ℤ
whole_score r = if r.is_whole then score_of r.is_negative r.amount else None

-- the score that is written in place of a text, which has another form
abbrev pub new_score : Word → Option ℤ
new_score text =
    if is_plain text then None else option_and_then (λ n. whole_score (rounded n)) (number_in text)

abbrev pub plain_score : Word → Word
plain_score text = unwrap_or (option_map signed_decimal (new_score text)) text

-- scores and members in turn
abbrev pub plain_pairs : List Word → List Word
plain_pairs (score ∷ member ∷ words) = plain_score score ∷ member ∷ plain_pairs words
plain_pairs words = words

abbrev pub has_new : List Word → Bool
has_new (score ∷ member ∷ words) = is_some (new_score score) || has_new words
has_new words = false

abbrev pub without_paren : Word → Word
without_paren text = if begins text (codes "(") then drop 1 text else text

abbrev pub bound_at : Bool → ℤ → NewBound
bound_at is_out limit = record { is_out = is_out; limit = limit }

-- The bound of a number at the least or the greatest end of a range. The next whole number inside
-- the range is not left out.
abbrev pub limit_in : Bool → Bool → Rounded → Option NewBound
limit_in is_out is_least r =
    option_map (bound_at (is_out && r.is_whole)) (score_of r.is_negative (inward is_least r))

-- the bound that is written in place of a text, which has another form
abbrev pub new_bound : Bool → Word → Option NewBound
new_bound is_least text =
    if is_plain (without_paren text) then None else option_and_then
    (λ n. limit_in (begins text (codes "(")) is_least (rounded n))
    (number_in (without_paren text))

abbrev pub bound_text : NewBound → Word
bound_text bound =
    if bound.is_out then 40 ∷ signed_decimal bound.limit else signed_decimal bound.limit

abbrev pub plain_bound : Bool → Word → Word
plain_bound is_least text = unwrap_or (option_map bound_text (new_bound is_least text)) text
