-- The lines that are written of a log.

use Rattle.std.specs.Fmt.{signed_decimal}
use Rattle.std.specs.Prelude.{List, [], codes, decimal, flat_map, if◌then◌else◌, nat_lt, ℕ, ◌++◌, ◌+◌, ◌/◌, ◌%◌, ◌==◌, ◌∷◌, ◌||◌}
use Rattle.zq_model.specs.Meaning.{Scored}

-- ---- names and what is said under them

abbrev pub number_line : List ℕ → ℕ → List ℕ
number_line name number = name ++ 32 ∷ decimal number ++ 10 ∷ []

abbrev pub word_line : List ℕ → List ℕ → List ℕ
word_line name words = name ++ 32 ∷ words ++ 10 ∷ []

-- a digit to the base 16, and a byte by two of them
abbrev pub hex_digit : ℕ → ℕ
hex_digit n = if nat_lt n 10 then 48 + n else 87 + n

abbrev pub hex_pair : ℕ → List ℕ
hex_pair b = hex_digit (b / 16) ∷ hex_digit (b % 16) ∷ []

-- ---- members

-- a byte as redis-cli writes it between quotes
abbrev pub quoted_byte : ℕ → List ℕ
quoted_byte b =
    if (b == 34) || (b == 92) then 92 ∷ b ∷ [] else (
    if b == 7 then codes "\\a" else (
    if b == 8 then codes "\\b" else (
    if b == 9 then codes "\\t" else (
    if b == 10 then codes "\\n" else (
    if b == 13 then codes "\\r" else (
    if nat_lt b 32 || nat_lt 126 b then codes "\\x" ++ hex_pair b else b ∷ []))))))

abbrev pub quoted : List ℕ → List ℕ
quoted bytes = 34 ∷ flat_map quoted_byte bytes ++ 34 ∷ []

-- the line of a member: its score, a space, its bytes between quotes
abbrev pub member_line : Scored → List ℕ
member_line x = signed_decimal x.0 ++ 32 ∷ quoted x.1 ++ 10 ∷ []
