-- The texts of numbers: what stands before and behind their point, and where an exponent moves it.
use Rattle.std.specs.Prelude.{◌==◌, ◌+◌, ◌-◌, ◌*◌, ◌^◌, nat_le, ◌&&◌, ◌||◌, Bool, false, ℕ, ◌++◌, length, take, codes, Option, None, Some, if◌then◌else◌}
use Rattle.std.specs.Char.{is_ascii_digit}
use Rattle.std.specs.List.{after_first, before_first, list_all, list_any}
use Rattle.std.specs.Option.{option_and_then}
use Rattle.zq_dialect.specs.declared.number.Shift.{Shift}
use Rattle.zq_words.specs.Words.{Word, are_all, begins, is_nonempty, is_point, number_of, without_sign}

-- digits before and behind the point, which the shift moves
pub record Number : Type 0 where
  pub is_negative : Bool
  pub whole : Word
  pub fraction : Word
  pub shift : Shift

-- what stands before an exponent
abbrev pub is_mark : ℕ → Bool
is_mark b = (b == 101) || (b == 69)

abbrev pub no_shift : Shift
no_shift = record { is_down = false; places = 0 }

abbrev pub shift_to : Bool → ℕ → Shift
shift_to is_down places = record { is_down = is_down; places = places }

-- an exponent: a sign or none, and one to four digits of an amount up to 400
abbrev pub shift_of : Word → Option Shift
shift_of text =
    if are_all is_ascii_digit (without_sign text) && nat_le (length (without_sign text)) 4
    && nat_le (number_of (without_sign text)) 400 then Some
    (shift_to (begins text (codes "-")) (number_of (without_sign text))) else None

-- digits alone, and one of them at least
abbrev pub with_digits : Bool → Word → Word → Shift → Option Number
with_digits is_negative whole fraction shift =
    if (is_nonempty whole || is_nonempty fraction) && list_all is_ascii_digit whole
    && list_all is_ascii_digit fraction then Some
    (record { is_negative = is_negative; whole = whole; fraction = fraction; shift = shift })
    else None

-- a sign or none, and digits with or without a point
abbrev pub number_at : Word → Shift → Option Number
number_at text shift =
    with_digits (begins text (codes "-")) (before_first is_point (without_sign text))
    (after_first is_point (without_sign text)) shift

-- the number that a text of at most 64 bytes writes
abbrev pub number_in : Word → Option Number
number_in text =
    if nat_le (length text) 64 then
    (if list_any is_mark text then option_and_then (number_at (before_first is_mark text))
    (shift_of (after_first is_mark text)) else number_at text no_shift) else None

-- how many digits stand before a point that is moved
abbrev pub moved : ℕ → Shift → ℕ
moved point shift = if shift.is_down then point - shift.places else point + shift.places

abbrev pub digits : Number → Word
digits n = n.whole ++ n.fraction

abbrev pub point : Number → ℕ
point n = moved (length n.whole) n.shift

-- what so many of the digits write, with zeros where they end
abbrev pub amount_at : Word → ℕ → ℕ
amount_at text count = number_of (take count text) * 10 ^ (count - length text)
