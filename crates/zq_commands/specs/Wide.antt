-- The scores that books within bounds have.

use Rattle.std.specs.Prelude.{ℤ, ◌^◌}
use Rattle.zq_model.specs.Operation.{IsWithin}

-- its amount is at most 2 to the 110th
abbrev pub IsWide : ℤ → Type 0
IsWide score = IsWithin (2 ^ 110) score
