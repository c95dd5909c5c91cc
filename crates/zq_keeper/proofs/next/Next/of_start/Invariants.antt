use Rattle.std.proofs.Common.{◌≡◌}
use Rattle.std.specs.Prelude.{replicate}
use Rattle.zq_keeper.specs.declared.next.Part.TheVariants.{Waiting}
use Rattle.zq_keeper.proofs.next.Next.of_start.Given as goal

abbrev pub invariant-loop-heap : goal.invariant-loop-heap
invariant-loop-heap l = l.parts.items ≡ replicate l._heap Waiting
