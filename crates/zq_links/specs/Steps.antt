-- Where a stream of pieces stands: the life of the sender's heap, the number of a piece, and the
-- spot that follows it. How it is spelled, and how bytes are read as it.

use Rattle.std.specs.Int.{to_be_bytes, w32, w64}
use Rattle.std.specs.Prelude.{List, Ok, ℕ, ◌++◌}
use Rattle.zq_fields.specs.Reading.{Read, ◌>>=◌}
use Rattle.zq_links.specs.Numbers.{IsNumber, IsShortNumber, u32_at, u64_at}
use Rattle.zq_links.specs.declared.spot.Spot.{Spot}

-- its numbers are in range
pub record IsSpot (s : Spot) : Type 0 where
  pub key : IsNumber s.key
  pub member : IsNumber s.member

pub record IsStep (l n : ℕ) (s : Spot) : Type 0 where
  pub life : IsNumber l
  pub number : IsShortNumber n
  pub next : IsSpot s

-- the place of a key, and that of a member
unfoldable pub spot_bytes : Spot → List ℕ
spot_bytes s = to_be_bytes w64 s.key ++ to_be_bytes w64 s.member

-- eight bytes, four bytes, and a spot
unfoldable pub step_bytes : ℕ → ℕ → Spot → List ℕ
step_bytes life number next =
    to_be_bytes w64 life ++ (to_be_bytes w32 number ++ spot_bytes next)

unfoldable pub spot_at : List ℕ → Read Spot
spot_at bytes = do
  key ← u64_at bytes
  member ← u64_at key.1
  Ok (record { key = key.0; member = member.0 }, member.1)

unfoldable pub step_at : List ℕ → Read (ℕ × ℕ × Spot)
step_at bytes = do
  life ← u64_at bytes
  number ← u32_at life.1
  next ← spot_at number.1
  Ok ((life.0, number.0, next.0), next.1)
