use Rattle.std.proofs.Common.{Some, ℕ, ◌<◌, ◌≡◌}
use Rattle.std.specs.Prelude.{slice_get}
use Rattle.zq_adopt.proofs.copying.are_alike.Given as goal
use Rattle.zq_keeper.specs.declared.outline.Outline.{Outline}
use Rattle.zq_stage.specs.Piece.{Staged}

abbrev pub invariant-loop-place : goal.invariant-loop-place
invariant-loop-place l = (h : ℕ) (t : Staged) → h < l.place → slice_get l.stages h ≡ Some t →
    (x : Outline) × (slice_get l.outlines h ≡ Some x) × (x.vector ≡ t.held.image.vector)
