use Rattle.std.proofs.Common.{Some, length, ℕ, ◌≡◌}
use Rattle.std.specs.Prelude.{slice_get}
use Rattle.zq_spread.proofs.building.empty_passes.Given as goal
use Rattle.zq_spread.specs.SiteBuilders.{HasPlaces}
use Rattle.zq_spread.specs.declared.pass.Pass.{Pass}

abbrev pub invariant-loop-pass : goal.invariant-loop-pass
invariant-loop-pass l = record {
  number : length l.passes.items ≡ l._pass;
  places : (i : ℕ) (pass : Pass) → slice_get l.passes.items i ≡ Some pass → HasPlaces l.heaps pass;
}
