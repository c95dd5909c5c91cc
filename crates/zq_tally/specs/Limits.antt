-- The number of a table's parts.
use Rattle.std.specs.Prelude.{ℕ}

-- one for each of at most 128 passes, and at least one with the total
abbrev pub ALL_PARTS : ℕ
ALL_PARTS = 129
