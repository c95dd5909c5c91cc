-- Pairs of a line: a key, and what its value says.

use Rattle.std.specs.Prelude.{Bool, List, [], false, flat_map, if◌then◌else◌, length, nat_lt, not, true, ℕ, ◌%◌, ◌&&◌, ◌++◌, ◌+◌, ◌/◌, ◌==◌, ◌||◌, ◌∷◌, ◌≡◌}
use Rattle.std.specs.List.{list_all}

-- whether a byte moves a terminal's cursor, or ends a line
abbrev pub is_control : ℕ → Bool
is_control byte = nat_lt byte 32 || (byte == 127)

-- whether a byte is a quote or a backslash
abbrev pub is_mark : ℕ → Bool
is_mark byte = (byte == 34) || (byte == 92)

-- whether a value may have a byte and no quotes around it: a blank would end it there, and a byte
-- `=` would make it another key
abbrev pub is_bare : ℕ → Bool
is_bare byte = not (is_control byte || is_mark byte || (byte == 32) || (byte == 61))

-- whether a value stands as it is: it has bytes, and each of them may stand with no quotes
abbrev pub is_plain : List ℕ → Bool
is_plain value = nat_lt 0 (length value) && list_all is_bare value

-- the digit of a number below 16
abbrev pub digit : ℕ → ℕ
digit number = if nat_lt number 10 then 48 + number else 87 + number

-- a byte between quotes: behind a backslash where it is a quote or a backslash, and by its number
-- where it is a control byte
abbrev pub escaped : ℕ → List ℕ
escaped byte =
    if is_control byte then 92 ∷ 117 ∷ 48 ∷ 48 ∷ digit (byte / 16) ∷ digit (byte % 16) ∷ []
    else if is_mark byte then 92 ∷ byte ∷ []
    else byte ∷ []

-- a value between quotes
abbrev pub quoted : List ℕ → List ℕ
quoted value = 34 ∷ flat_map escaped value ++ 34 ∷ []

-- a value as it is written
abbrev pub written : List ℕ → List ℕ
written value = if is_plain value then value else quoted value

-- a pair as it is written, behind a blank
abbrev pub pair : List ℕ → List ℕ → List ℕ
pair key value = 32 ∷ key ++ 61 ∷ written value

-- Whether bytes can stand between quotes: none is a control byte, and a quote or a backslash stands
-- only behind a backslash that escapes it. The first word says whether the byte before is such a
-- backslash.
abbrev pub is_inside : Bool → List ℕ → Bool
is_inside true [] = false
is_inside false [] = true
is_inside true (byte ∷ bytes) = not (is_control byte) && is_inside false bytes
is_inside false (byte ∷ bytes) =
    if byte == 92 then is_inside true bytes
    else not (is_control byte || (byte == 34)) && is_inside false bytes

-- What stands between the quotes of a value is no quote that ends it, so that the value ends where
-- it was written to; and no byte of it ends the line.
abbrev pub EndsAtItsQuote : Type 0
EndsAtItsQuote = (value : List ℕ) → is_inside false (flat_map escaped value) ≡ true
