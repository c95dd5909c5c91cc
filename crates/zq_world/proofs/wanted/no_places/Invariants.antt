use Rattle.std.proofs.Common.{Some, Vec, [], length, ℕ, ◌≡◌}
use Rattle.std.specs.Prelude.{slice_get}
use Rattle.std.specs.declared.alloc.Global.{Global}
use Rattle.zq_world.proofs.wanted.no_places.Given as goal

abbrev pub invariant-loop-moment : goal.invariant-loop-moment
invariant-loop-moment l = record {
  number : length l.wanted.items ≡ l._moment;
  none : (moment : ℕ) (places : Vec ℕ Global) → slice_get l.wanted.items moment ≡ Some places → places.items ≡ [];
}
