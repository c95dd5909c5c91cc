-- The most that a node keeps and tells.

use Rattle.std.specs.Prelude.{ℕ}

-- the most operations that are parked, where no other number is given
abbrev pub MOST_PARKED : ℕ
MOST_PARKED = 1024

-- the most operations of an answer: four bytes count them
abbrev pub MOST_TOLD : ℕ
MOST_TOLD = 4294967295
