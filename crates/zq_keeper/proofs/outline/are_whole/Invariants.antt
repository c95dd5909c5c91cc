use Rattle.std.proofs.Common.{Some, true, ℕ, ◌<◌, ◌≡◌}
use Rattle.std.specs.Prelude.{slice_get}
use Rattle.zq_keeper.specs.declared.outline.Outline.{Outline}
use Rattle.zq_keeper.proofs.outline.are_whole.Given as goal

abbrev pub invariant-loop-outline : goal.invariant-loop-outline
invariant-loop-outline l =
    (h : ℕ) (x : Outline) → h < l.outline-index → slice_get l.outlines h ≡ Some x → x.whole ≡ true
