-- Pauses before a peer is dialled again, in milliseconds.

use Rattle.std.specs.Prelude.{Bool, None, Option, Some, if◌then◌else◌, min, ℕ, ◌*◌, ◌≤◌}

abbrev pub FIRST_PAUSE : ℕ
FIRST_PAUSE = 100

abbrev pub LAST_PAUSE : ℕ
LAST_PAUSE = 5000

-- from the first to the last
abbrev pub IsPause : ℕ → Type 0
IsPause millis = (FIRST_PAUSE ≤ millis) × (millis ≤ LAST_PAUSE)

-- twice as long, up to the last
abbrev pub longer_pause : ℕ → ℕ
longer_pause millis = min (2 * millis) LAST_PAUSE

-- The pause after an attempt, from the one before it, if there was one, and from whether a frame of
-- the peer was heard: the first one after the first attempt and after each at which one was heard,
-- and else one that is longer than the last.
abbrev pub next_pause : Option ℕ → Bool → ℕ
next_pause None heard = FIRST_PAUSE
next_pause (Some last) heard = if heard then FIRST_PAUSE else longer_pause last
