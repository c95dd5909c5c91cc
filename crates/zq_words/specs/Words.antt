-- The texts of words and numbers.
use Rattle.std.specs.Prelude.{◌==◌, nat_eq, ◌+◌, ◌-◌, ◌*◌, ◌^◌, neg_ℤ, int_le, ◌&&◌, ◌||◌, not, Bool, true, false, List, ℕ, ℤ, pos, [], ◌∷◌, drop, codes, Option, None, Some, if◌then◌else◌, map}
use Rattle.std.specs.List.{starts_with, list_all, list_any, fold, before_first, after_first}
use Rattle.std.specs.Char.{is_ascii_digit}
use Rattle.std.specs.Str.{str_eq_ignore_ascii_case}
use Rattle.std.specs.declared.alloc.Global.{Global}
use Rattle.std.specs.declared.vec.Vec.{Vec}

abbrev pub Word : Type 0
Word = List ℕ

-- the words that some vectors hold
abbrev pub views : List (Vec ℕ Global) → List Word
views words = map (λ w. w.items) words

-- a text as it is, and without regard to ASCII case
abbrev pub begins : Word → Word → Bool
begins text = starts_with nat_eq text

abbrev pub is : Word → Word → Bool
is text = str_eq_ignore_ascii_case text

-- one of the words is this one
abbrev pub has : Word → List Word → Bool
has name words = list_any (λ word. is word name) words

-- the value where there is one and it passes
abbrev pub if_passes : (ℤ → Bool) → Option ℤ → Option ℤ
if_passes p None = None
if_passes p (Some z) = if p z then Some z else None

abbrev pub is_nonempty : Word → Bool
is_nonempty [] = false
is_nonempty (b ∷ bs) = true

-- one or more characters that pass
abbrev pub are_all : (ℕ → Bool) → Word → Bool
are_all p text = is_nonempty text && list_all p text

-- the number that these digits write
abbrev pub number_of : Word → ℕ
number_of digits = fold (λ n digit. 10 * n + (digit - 48)) 0 digits

abbrev pub without_sign : Word → Word
without_sign text = if begins text (codes "+") || begins text (codes "-") then drop 1 text else text

abbrev pub signed : Word → ℕ → ℤ
signed text n = if begins text (codes "-") then neg_ℤ (pos n) else pos n

-- an optional sign and one or more digits
abbrev pub integer_of : Word → Option ℤ
integer_of text = if are_all is_ascii_digit (without_sign text) then Some
    (signed text (number_of (without_sign text))) else None

abbrev pub is_i64 : ℤ → Bool
is_i64 z = int_le (neg_ℤ (pos (2 ^ 63))) z && int_le z (pos (2 ^ 63 - 1))

abbrev pub is_in_range : ℤ → Bool
is_in_range z = int_le (neg_ℤ (pos 9007199254740992)) z && int_le z (pos 9007199254740992)

-- the text of a start, a stop, an offset or a count
abbrev pub whole_of : Word → Option ℤ
whole_of text = if_passes is_i64 (integer_of text)

abbrev pub is_point : ℕ → Bool
is_point b = b == 46

abbrev pub is_zero : ℕ → Bool
is_zero b = b == 48

-- the text of a score or an increment: a point, where there is one, has one or more zeros after it
-- and nothing else
abbrev pub written_score : Word → Option ℤ
written_score text = if list_any is_point text && not
    (are_all is_zero (after_first is_point text)) then None else if_passes is_in_range
    (integer_of (before_first is_point text))
