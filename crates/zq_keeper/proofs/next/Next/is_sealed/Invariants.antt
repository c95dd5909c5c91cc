use Rattle.std.proofs.Common.{Some, true, ℕ, ◌<◌, ◌≡◌}
use Rattle.std.specs.Prelude.{slice_get}
use Rattle.zq_keeper.specs.Operations.{is_sealed}
use Rattle.zq_keeper.specs.declared.next.Part.{Part}
use Rattle.zq_keeper.proofs.next.Next.is_sealed.Given as goal

abbrev pub invariant-loop-part : goal.invariant-loop-part
invariant-loop-part l = (h : ℕ) (part : Part) → h < l.part-index →
    slice_get l.self.parts.items h ≡ Some part → is_sealed part ≡ true
