-- Numbers by groups of seven bits, the lowest first. Each byte but the last has 128 added.

use Rattle.std.specs.Option.{ok_or}
use Rattle.std.specs.Prelude.{Err, List, Ok, [], if◌then◌else◌, nat_le, nat_lt, suc, zero, ℕ, ◌%◌, ◌&&◌, ◌*◌, ◌+◌, ◌-◌, ◌/◌, ◌∷◌}
use Rattle.zq_fields.specs.Fields.{byte_field}
use Rattle.zq_fields.specs.Reading.{Read, place, ◌>>=◌}
use Rattle.zq_fields.specs.declared.fault.PartFault.TheVariants.{Field, Short}

-- the most bytes of a number
abbrev pub MOST_GROUPS : ℕ
MOST_GROUPS = 8

-- how many numbers have so many groups or fewer
unfoldable pub numbers : ℕ → ℕ
numbers zero = 1
numbers (suc k) = 128 * numbers k

-- the groups of a number, of which there are at most so many
unfoldable pub groups : ℕ → ℕ → List ℕ
groups zero n = []
groups (suc k) n = if nat_lt n 128 then n ∷ [] else (128 + n % 128) ∷ groups k (n / 128)

abbrev pub varint : ℕ → List ℕ
varint n = groups MOST_GROUPS n

-- A number of at most so many groups, the last of which is not 0 but where it is alone. Where the
-- number has more, or its last group is 0, the fault is at this place.
unfoldable pub groups_at : ℕ → ℕ → List ℕ → Read ℕ
groups_at zero at bytes = Err (Field at)
groups_at (suc k) at bytes = do
  b ← ok_or (byte_field bytes) Short
  if nat_lt b.0 128 then Ok b else (do
    n ← groups_at k at b.1
    if nat_lt 0 n.0 then Ok (b.0 - 128 + 128 * n.0, n.1) else Err (Field at))

-- a number from low up to last
unfoldable pub varint_in : ℕ → ℕ → ℕ → List ℕ → Read ℕ
varint_in whole low last bytes = do
  n ← groups_at MOST_GROUPS (place whole bytes) bytes
  if nat_le low n.0 && nat_le n.0 last then Ok n else Err (Field (place whole bytes))
