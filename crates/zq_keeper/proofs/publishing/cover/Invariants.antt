use Rattle.std.proofs.Common.{Some, ℕ, ◌<◌, ◌≡◌, ◌≤◌}
use Rattle.std.specs.Prelude.{slice_get, slice_index}
use Rattle.zq_keeper.specs.declared.outline.Outline.{Outline}
use Rattle.zq_keeper.proofs.publishing.cover.Given as goal

abbrev pub invariant-loop-place : goal.invariant-loop-place
invariant-loop-place l = (h : ℕ) (x : Outline) → h < l.place → slice_get l.others h ≡ Some x →
    (y : Outline) × (slice_get l.heaps h ≡ Some y)
    × ((s : ℕ) → slice_index x.vector s ≤ slice_index y.vector s)
