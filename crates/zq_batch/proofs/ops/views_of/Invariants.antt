use Rattle.std.proofs.Common.{take, ◌≡◌}
use Rattle.zq_batch.proofs.ops.views_of.Given as goal

abbrev pub invariant-loop-op : goal.invariant-loop-op
invariant-loop-op l = l.views.items ≡ take l.op-index l.ops
