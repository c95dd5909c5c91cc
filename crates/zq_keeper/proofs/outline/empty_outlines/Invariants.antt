use Rattle.std.proofs.Common.{◌≡◌}
use Rattle.std.specs.Prelude.{replicate}
use Rattle.zq_keeper.specs.Outline.{empty_outline}
use Rattle.zq_keeper.proofs.outline.empty_outlines.Given as goal

abbrev pub invariant-loop-heap : goal.invariant-loop-heap
invariant-loop-heap l = l.outlines.items ≡ replicate l._heap empty_outline
