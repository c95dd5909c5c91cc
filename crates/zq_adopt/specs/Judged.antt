-- Which heaps a site may adopt.

use Rattle.std.specs.Prelude.{List, Some, slice_get, slice_index, ℕ, ◌≡◌, ◌≢◌}
use Rattle.zq_adopt.specs.declared.judging.Unfit.{Unfit}
use Rattle.zq_adopt.specs.declared.judging.Unfit.TheVariants.{NotWhole, OwnNumber, UsedNumber}
use Rattle.zq_keeper.specs.declared.reader.Reader.{Reader}
use Rattle.zq_model.specs.Sets.{IsHeaps}
use Rattle.zq_recovery.specs.Step.{AreWhole}
use Rattle.zq_stage.specs.Piece.{Staged}

-- no heap has an operation of the site
abbrev pub AreForeign : ℕ → List Staged → Type 0
AreForeign site stages = (h : ℕ) (t : Staged) → slice_get stages h ≡ Some t →
    slice_index t.held.image.vector site ≡ 0

-- they are as many as a site may have, and no piece of them is missing
pub record IsSound (r : Reader) : Type 0 where
  pub heaps : IsHeaps r.recovery.identity.heaps
  pub whole : AreWhole r.recovery.stages.items

-- they are of another site, of which they have no operation
pub record IsFit (r : Reader) (site : ℕ) : Type 0 where
  pub sound : IsSound r
  pub other : r.recovery.identity.site ≢ site
  pub foreign : AreForeign site r.recovery.stages.items

-- why others are refused
abbrev pub IsUnfitFor : Reader → ℕ → Unfit → Type 0
IsUnfitFor r site NotWhole = IsSound r → ⊥
IsUnfitFor r site OwnNumber = IsSound r × (r.recovery.identity.site ≡ site)
IsUnfitFor r site UsedNumber = IsSound r × (AreForeign site r.recovery.stages.items → ⊥)
