-- Lines that wait to be written, and those that found no room.

use Rattle.std.specs.Prelude.{List, [], None, Option, Some, min, ℕ, ◌++◌, ◌+◌, ◌<◌, ◌∷◌, ◌≡◌, ◌⊎◌}
use Rattle.zq_log.specs.Limits.{LAST}
use Rattle.zq_log.specs.declared.backlog.Backlog.{Backlog}
use Rattle.zq_log.specs.declared.backlog.Entry.{Entry}

-- the most lines that wait
abbrev pub MOST_LINES : ℕ
MOST_LINES = 1024

-- a line waits behind all others, with how many were dropped before it; none was dropped
abbrev pub Waits : List ℕ → Backlog → Backlog → Type 0
Waits bytes old new = (entry : Entry) × (entry.line.items ≡ bytes) × (entry.lost ≡ old.lost)
    × (new.lines.items ≡ old.lines.items ++ entry ∷ []) × (new.lost ≡ 0)
    × (new.dropped ≡ old.dropped)

-- it is dropped, and counted
abbrev pub IsLost : Backlog → Backlog → Type 0
IsLost old new = (new.lines.items ≡ old.lines.items) × (new.lost ≡ min (old.lost + 1) LAST)
    × (new.dropped ≡ min (old.dropped + 1) LAST)

-- what is taken to be written: the line that waits longest; where none waits, how many were
-- dropped, with no bytes; nothing where none were. How many were dropped in all stays
abbrev pub IsTaken : Backlog → Option Entry → Backlog → Type 0
IsTaken old None new =
    (old.lines.items ≡ []) × (old.lost ≡ 0) × (new.lines.items ≡ []) × (new.lost ≡ 0)
    × (new.dropped ≡ old.dropped)
IsTaken old (Some entry) new =
    (new.dropped ≡ old.dropped)
    × (((old.lines.items ≡ entry ∷ new.lines.items) × (new.lost ≡ old.lost))
    ⊎ ((old.lines.items ≡ []) × (new.lines.items ≡ []) × (0 < old.lost) × (entry.lost ≡ old.lost)
    × (entry.line.items ≡ []) × (new.lost ≡ 0)))
