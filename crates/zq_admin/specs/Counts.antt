-- How many keys are asked for.

use Rattle.std.specs.Char.{is_ascii_digit}
use Rattle.std.specs.List.{list_all}
use Rattle.std.specs.Prelude.{Bool, List, None, Option, Some, codes, drop, if◌then◌else◌, nat_le, take, ℕ, ◌&&◌}
use Rattle.std.specs.Str.Parse.{digits_value}
use Rattle.std.specs.Str.{bytes_eq}

abbrev pub are_digits : List ℕ → Bool
are_digits bytes = list_all is_ascii_digit bytes

-- 1 to 1000
abbrev pub bounded : ℕ → Option ℕ
bounded n = if nat_le 1 n && nat_le n 1000 then Some n else None

-- the number of decimal digits
abbrev pub count_of : List ℕ → Option ℕ
count_of digits = if are_digits digits then bounded (digits_value 10 digits) else None

-- behind `n=`, and 20 where there is no query
abbrev pub count_in : Option (List ℕ) → Option ℕ
count_in None = Some 20
count_in (Some query) =
    if bytes_eq (take 2 query) (codes "n=") then count_of (drop 2 query) else None
