-- At most ten lines of a kind in ten seconds.

use Rattle.std.specs.Prelude.{Bool, List, Option, None, Some, if◌then◌else◌, min, nat_le, replicate, slice_index, take, ℕ, ◌+◌, ◌∷◌}
use Rattle.zq_log.specs.declared.limiter.Limiter.{Limiter}

-- the most lines of a kind in so many milliseconds
abbrev pub PLACES : ℕ
PLACES = 10

abbrev pub WINDOW : ℕ
WINDOW = 10000

abbrev pub LAST : ℕ
LAST = 18446744073709551615

-- A line takes a place for the window. The list has the times from which on the places are free, of
-- the line that came last first.

-- whether a line passes: the place of the tenth line before it is free
abbrev pub passes : ℕ → List ℕ → Bool
passes now free = nat_le (slice_index free 9) now

-- the times after a line that passed
abbrev pub free_after : ℕ → List ℕ → List ℕ
free_after now free = min (now + WINDOW) LAST ∷ take 9 free

-- what a line is answered that comes now: how many were held back before it, or that it is held
-- back
abbrev pub answer : ℕ → Limiter → Option ℕ
answer now limiter = if passes now limiter.free then Some limiter.held else None

-- a limiter after it
abbrev pub limited : ℕ → Limiter → Limiter
limited now limiter =
    if passes now limiter.free
    then record { free = free_after now limiter.free; held = 0 }
    else record { free = limiter.free; held = min (limiter.held + 1) LAST }

-- one that no line came to
abbrev pub fresh : Limiter
fresh = record { free = replicate 10 0; held = 0 }
