-- How much memory a process has, and what comes of it.

use Rattle.std.specs.Prelude.{Bool, List, None, Option, Some, false, if◌then◌else◌, min, nat_lt, true, ℕ, ◌*◌, ◌-◌, ◌==◌, ◌^◌}
use Rattle.std.specs.List.{after_first, before_first}
use Rattle.zq_serve.specs.declared.memory.Fullness.{Fullness}
use Rattle.zq_serve.specs.declared.memory.Fullness.TheVariants.{Below, Past, Unread}
use Rattle.zq_serve.specs.declared.memory.Turn.{Turn}
use Rattle.zq_serve.specs.declared.memory.Turn.TheVariants.{Begins, Ends, Loses}

-- the second of the words of a text, of which each ends at a blank
abbrev pub second_word : List ℕ → List ℕ
second_word text = before_first (λ b. b == 32) (after_first (λ b. b == 32) text)

-- the bytes of so many pages of so many bytes
abbrev pub bytes_of : ℕ → ℕ → ℕ
bytes_of pages size = min (pages * size) (2 ^ 64 - 1)

-- whether a process that has so many bytes of memory, where that could be read, has more than the
-- most that it may
abbrev pub fullness_of : ℕ → Option ℕ → Fullness
fullness_of most None = Unread
fullness_of most (Some bytes) = if nat_lt most bytes then Past bytes else Below bytes

abbrev pub is_past : Fullness → Bool
is_past (Past bytes) = true
is_past other = false

abbrev pub is_unread : Fullness → Bool
is_unread Unread = true
is_unread other = false

-- what begins or ends with what is seen, after what was seen last
abbrev pub turn_after : Fullness → Fullness → Option Turn
turn_after last (Past bytes) = if is_past last then None else Some (Begins bytes)
turn_after last (Below bytes) = if is_past last then Some (Ends bytes) else None
turn_after last Unread = if is_unread last then None else Some Loses
