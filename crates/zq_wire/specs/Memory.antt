-- Where a reader asks for memory, so that it may be refused there.
use Rattle.std.specs.Prelude.{◌≡◌, ◌≢◌, ℕ, List, [], ◌∷◌, ◌++◌, Option, Some, None}
use Rattle.zq_wire.specs.Framed.{IsTooLong}
use Rattle.zq_wire.specs.Stream.{Frames, Reaches}

-- what is kept of a frame after these: what there was before the piece, until the first one is
-- whole
abbrev pub kept_after : Frames → List ℕ → List ℕ
kept_after [] had = had
kept_after (frame ∷ frames) had = []

-- Memory is asked for bytes that have come, beside those that are kept of their frame. Where none
-- are kept, they do not begin with a length above the most.
pub record AsksFor (most : ℕ) (kept more : List ℕ) : Type 0 where
  pub some : more ≢ []
  pub within : kept ≡ [] → IsTooLong most more → ⊥

-- so it is for the bytes of a piece after these frames
pub record AsksMemory (most : ℕ) (had piece : List ℕ) (before : Frames) : Type 0 where
  pub more : List ℕ
  pub reaches : Reaches most (had ++ piece) before (kept_after before had ++ more)
  pub asks : AsksFor most (kept_after before had) more

-- the same of a reader, which asks for none after a fault
abbrev pub ReaderAsks : ℕ → Option (List ℕ) → List ℕ → Frames → Type 0
ReaderAsks most None piece before = ⊥
ReaderAsks most (Some had) piece before = AsksMemory most had piece before
