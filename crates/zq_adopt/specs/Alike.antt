-- What a log that was made has of the heaps.

use Rattle.std.specs.Prelude.{List, Some, slice_get, ℕ, ◌≡◌}
use Rattle.zq_keeper.specs.declared.outline.Outline.{Outline}
use Rattle.zq_stage.specs.Piece.{Staged}
use Rattle.zq_stage.specs.declared.portion.PortionLimits.{PortionLimits}

-- how much of a heap goes at once
abbrev pub PORTION : PortionLimits
PORTION = record { rows = 1000; bytes = 900000 }

-- the log says of each of these heaps that it has just its operations
abbrev pub AreAlike : List Staged → List Outline → Type 0
AreAlike stages outlines = (h : ℕ) (t : Staged) → slice_get stages h ≡ Some t →
    (x : Outline) × (slice_get outlines h ≡ Some x) × (x.vector ≡ t.held.image.vector)
