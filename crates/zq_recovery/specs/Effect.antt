-- What entries make of what was recovered before.

use Rattle.std.specs.Prelude.{IsSome, List, Option, Some, ◌≡◌}
use Rattle.zq_entries.specs.declared.entry.Entry.{Entry}
use Rattle.zq_entries.specs.declared.entry.Entry.TheVariants as variant
use Rattle.zq_entries.specs.declared.start.Start.{Start}
use Rattle.zq_recovery.specs.Opening.{IsNextStart}
use Rattle.zq_recovery.specs.Step.{AreWhole, Comes, IsWhole, TakesEach}
use Rattle.zq_recovery.specs.declared.opening.Identity.{Identity}
use Rattle.zq_stage.specs.Piece.{Staged}

-- what an entry makes of the stages
abbrev pub Does : Entry → List Staged → List Staged → Type 0
Does (variant.Start s) old new = new ≡ old
Does (variant.Round batches) old new = TakesEach batches.items old new
Does (variant.Piece p) old new = Comes p old new
Does (variant.Sealed w) old new = IsWhole w old × (new ≡ old)
Does variant.Rest old new = AreWhole old × (new ≡ old)

-- a start follows those before it, and every other entry some start
abbrev pub Opens : Identity → Entry → Option Start → Option Start → Type 0
Opens i (variant.Start s) old new = IsNextStart i old s × (new ≡ Some s)
Opens i (variant.Round batches) old new = IsSome old × (new ≡ old)
Opens i (variant.Piece p) old new = IsSome old × (new ≡ old)
Opens i (variant.Sealed w) old new = IsSome old × (new ≡ old)
Opens i variant.Rest old new = IsSome old × (new ≡ old)
