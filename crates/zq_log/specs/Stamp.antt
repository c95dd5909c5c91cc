-- The time at the head of a line: RFC 3339 in UTC, with milliseconds.

use Rattle.jiff_core.specs.Date.{epoch_day}
use Rattle.jiff_core.specs.declared.civil.date.Date.{Date}
use Rattle.std.specs.Prelude.{List, [], min, pos, unsigned_abs, ℕ, ◌%◌, ◌++◌, ◌+◌, ◌/◌, ◌∷◌, ◌≡◌}

-- the last millisecond since 1970 that has a year of four digits
abbrev pub LAST_MILLI : ℕ
LAST_MILLI = 253402300799999

abbrev pub DAY : ℕ
DAY = 86400000

-- the last digits of a number, so many
abbrev pub two : ℕ → List ℕ
two n = (48 + (n / 10) % 10) ∷ (48 + n % 10) ∷ []

abbrev pub three : ℕ → List ℕ
three n = (48 + (n / 100) % 10) ∷ two n

abbrev pub four : ℕ → List ℕ
four n = (48 + (n / 1000) % 10) ∷ three n

-- year, month and day, with a hyphen between
abbrev pub date_text : Date → List ℕ
date_text date = four (unsigned_abs date.year) ++ 45 ∷ two date.month ++ 45 ∷ two date.day

-- hours, minutes and seconds with a colon between, and milliseconds behind a point
abbrev pub clock_text : ℕ → List ℕ
clock_text milli = two (milli / 3600000) ++ 58 ∷ two ((milli / 60000) % 60)
    ++ 58 ∷ two ((milli / 1000) % 60) ++ 46 ∷ three (milli % 1000)

-- the text of a time, in milliseconds since 1970; of a later one, that of the last
abbrev pub IsStamp : ℕ → List ℕ → Type 0
IsStamp milli text = (date : Date)
    × (epoch_day date ≡ pos ((min milli LAST_MILLI) / DAY))
    × (text ≡ date_text date ++ 84 ∷ clock_text ((min milli LAST_MILLI) % DAY) ++ 90 ∷ [])
