-- Texts in chunks, by their numbers.

use Rattle.std.specs.Prelude.{List, [], flat_map, length, ℕ, ◌+◌, ◌∷◌, ◌≡◌}
use Rattle.zq_backlog.specs.declared.chunk.Chunk.{Chunk}

-- the texts of all of them
abbrev pub texts_in : List Chunk → List (List ℕ)
texts_in chunks = flat_map (λ (c : Chunk). c.texts) chunks

-- the number of their first text; of no chunks that of the text behind them
abbrev pub first_of : List Chunk → ℕ → ℕ
first_of [] next = next
first_of (c ∷ chunks) next = c.first

-- each begins where the one before it ends, and the last ends before the text of this number
abbrev pub AreJoined : List Chunk → ℕ → Type 0
AreJoined [] next = Unit {0}
AreJoined (c ∷ chunks) next =
    (c.first + length c.texts ≡ first_of chunks next) × AreJoined chunks next
