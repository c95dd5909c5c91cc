use Rattle.std.proofs.Common.{[], ◌<◌}
use Rattle.zq_dots.specs.Placed.{Placed}
use Rattle.zq_node.specs.Calls.{IsEarlyTo}
use Rattle.zq_node.specs.Node.{IsNode, IsSameHome, parked_of, pass_of}
use Rattle.zq_node.specs.Parked.{IsParked}
use Rattle.zq_node.specs.Work.{HasWorked}
use Rattle.zq_node.proofs.node.Node.settle_all.Given as goal

abbrev pub invariant-loop-heap : goal.invariant-loop-heap
invariant-loop-heap g l =
    IsNode l.self × IsSameHome l.fn.self l.self × HasWorked [] l.fn.self l.self
    × ((o : Placed) → IsParked (parked_of l.self) o → o.operation.heap < l.heap → IsEarlyTo (pass_of l.self) o)
