-- Numbers at the front of the bytes.

use Rattle.std.specs.Int.{w32, w64}
use Rattle.std.specs.Option.{ok_or}
use Rattle.std.specs.Prelude.{List, ℕ, ◌<◌, ◌^◌}
use Rattle.zq_fields.specs.Fields.{number_field}
use Rattle.zq_fields.specs.Reading.{Read}
use Rattle.zq_fields.specs.declared.fault.PartFault.TheVariants.{Short}

-- four bytes hold the number
abbrev pub IsShortNumber : ℕ → Type 0
IsShortNumber n = n < 2 ^ 32

-- eight bytes hold the number
abbrev pub IsNumber : ℕ → Type 0
IsNumber n = n < 2 ^ 64

-- a number of four bytes
abbrev pub u32_at : List ℕ → Read ℕ
u32_at bytes = ok_or (number_field w32 bytes) Short

-- a number of eight bytes
abbrev pub u64_at : List ℕ → Read ℕ
u64_at bytes = ok_or (number_field w64 bytes) Short
