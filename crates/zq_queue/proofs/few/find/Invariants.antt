use Rattle.std.specs.Prelude.{Some, slice_get, ℕ, ◌<◌, ◌≡◌}
use Rattle.zq_queue.specs.Few.{names_in}
use Rattle.zq_queue.proofs.few.find.Given as goal

abbrev pub invariant-loop-place : goal.invariant-loop-place
invariant-loop-place l = (i : ℕ) → i < l.place → slice_get (names_in l.list) i ≡ Some l.member → ⊥
