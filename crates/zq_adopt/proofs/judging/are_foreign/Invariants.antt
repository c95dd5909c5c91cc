use Rattle.std.proofs.Common.{Some, ℕ, ◌<◌, ◌≡◌}
use Rattle.std.specs.Prelude.{slice_get, slice_index}
use Rattle.zq_adopt.proofs.judging.are_foreign.Given as goal
use Rattle.zq_stage.specs.Piece.{Staged}

abbrev pub invariant-loop-stage : goal.invariant-loop-stage
invariant-loop-stage l = (h : ℕ) (t : Staged) → h < l.stage-index → slice_get l.stages h ≡ Some t →
    slice_index t.held.image.vector l.site ≡ 0
