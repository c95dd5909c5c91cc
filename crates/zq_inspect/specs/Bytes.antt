-- The bytes that reads of a file gave.

use Rattle.std.specs.Prelude.{Bool, List, [], if◌then◌else◌, slice_index, suc, true, ℕ, ◌++◌, ◌+◌, ◌<◌, ◌==◌, ◌≡◌, ◌∷◌}

-- a read: whether it succeeded, how much room there was, and the bytes
abbrev pub Answer : Type 0
Answer = Bool × ℕ × List ℕ

abbrev pub answer_of : List ℕ → List ℕ → Answer
answer_of numbers bytes = (slice_index numbers 0 == 1, slice_index numbers 1, bytes)

-- what was read so far, of which the newest answer comes first
abbrev pub given_by : List Answer → List ℕ
given_by [] = []
given_by (a ∷ earlier) = if a.0 then given_by earlier ++ a.2 else given_by earlier

-- how often reading has failed
abbrev pub failures_in : List Answer → ℕ
failures_in [] = 0
failures_in (a ∷ earlier) = if a.0 then failures_in earlier else suc (failures_in earlier)

-- the last read had room, and there was nothing more to be read
abbrev pub IsAtEnd : List Answer → Type 0
IsAtEnd [] = ⊥
IsAtEnd (a ∷ earlier) = (a.0 ≡ true) × (0 < a.1) × (a.2 ≡ [])

-- the place behind the last byte that is not 0, where these bytes stand at a place, and that of
-- those before is known
abbrev pub used_from : ℕ → ℕ → List ℕ → ℕ
used_from at used [] = used
used_from at used (b ∷ bytes) = used_from (at + 1) (if b == 0 then used else at + 1) bytes

abbrev pub used_of : List ℕ → ℕ
used_of bytes = used_from 0 0 bytes
