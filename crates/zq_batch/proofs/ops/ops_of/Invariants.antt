use Rattle.std.proofs.Common.{take, ◌≡◌}
use Rattle.zq_batch.proofs.ops.ops_of.Given as goal

abbrev pub invariant-loop-view : goal.invariant-loop-view
invariant-loop-view l = l.ops.items ≡ take l.view-index l.views
