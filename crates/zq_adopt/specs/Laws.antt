-- What is proved of a log that was made.

use Rattle.std.specs.Prelude.{List, Option, Some, length, slice_get, slice_index, ℕ, ◌≡◌}
use Rattle.zq_adopt.specs.Alike.{AreAlike}
use Rattle.zq_adopt.specs.Judged.{AreForeign}
use Rattle.zq_entries.specs.declared.start.Start.{Start}
use Rattle.zq_keeper.specs.Read.{HasRead, IsReadAs}
use Rattle.zq_keeper.specs.declared.outline.Outline.{Outline}
use Rattle.zq_keeper.specs.declared.reader.Reader.{Reader}
use Rattle.zq_stage.specs.Piece.{Staged}

-- a reader has just the operations of each of these heaps
abbrev pub HasAgain : List Staged → Reader → Type 0
HasAgain stages r = (h : ℕ) (t : Staged) → slice_get stages h ≡ Some t →
    (s : Staged) × (slice_get r.recovery.stages.items h ≡ Some s)
    × (s.held.image.vector ≡ t.held.image.vector)

-- whoever reads the records of the log
abbrev pub IsReadAgain : Type 0
IsReadAgain = (payloads : List (List ℕ)) (start : Option Start) (outlines : List Outline)
    (stages : List Staged) (last : Reader) →
    IsReadAs last.recovery.identity payloads start outlines → AreAlike stages outlines →
    HasRead payloads last → HasAgain stages last

-- where the heaps have no operation of a site the log says of none
abbrev pub HasMadeNothing : Type 0
HasMadeNothing = (site : ℕ) (stages : List Staged) (outlines : List Outline) →
    AreForeign site stages → AreAlike stages outlines → length outlines ≡ length stages →
    (h : ℕ) (x : Outline) → slice_get outlines h ≡ Some x → slice_index x.vector site ≡ 0
