use Rattle.std.proofs.Common.{take, ◌≡◌}
use Rattle.std.specs.List.{All}
use Rattle.zq_replica.proofs.piecing.are_of.Given as goal

abbrev pub invariant-loop-op : goal.invariant-loop-op
invariant-loop-op l = All (λ o. o.operation.heap ≡ l.heap) (take l.op-index l.ops)
