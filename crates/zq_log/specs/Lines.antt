-- A line of the log.

use Rattle.log.specs.Level.{level_name}
use Rattle.log.specs.declared.level.Level.{Level}
use Rattle.std.specs.Prelude.{List, [], codes, decimal, if◌then◌else◌, length, map, nat_lt, take, ℕ, ◌++◌, ◌==◌, ◌||◌, ◌∷◌, ◌≡◌}
use Rattle.zq_log.specs.Stamp.{IsStamp}

-- the most bytes of a line, without the byte that ends it
abbrev pub MOST_BYTES : ℕ
MOST_BYTES = 1024

-- a byte of a message: what would end a line, or move a terminal's cursor, is a question mark
abbrev pub plain : ℕ → ℕ
plain byte = if nat_lt byte 32 || (byte == 127) then 63 else byte

-- how many lines more there were of this kind, as a pair
abbrev pub told : ℕ → List ℕ
told more = if more == 0 then [] else codes " more=" ++ decimal more

-- a text that is too long is cut, and ends in three points
abbrev pub cut : List ℕ → List ℕ
cut text = if nat_lt MOST_BYTES (length text) then take 1021 text ++ codes "..." else text

-- time, level, message, pairs as they are written, and how many more there were; then the end of
-- the line
abbrev pub line : List ℕ → Level → List ℕ → List ℕ → ℕ → List ℕ
line stamp level message pairs more =
    cut (stamp ++ 32 ∷ level_name level ++ 32 ∷ map plain message ++ pairs ++ told more) ++ 10 ∷ []

-- the same of a time in milliseconds since 1970
abbrev pub IsLine : ℕ → Level → List ℕ → List ℕ → ℕ → List ℕ → Type 0
IsLine milli level message pairs more bytes =
    (stamp : List ℕ) × IsStamp milli stamp × (bytes ≡ line stamp level message pairs more)
