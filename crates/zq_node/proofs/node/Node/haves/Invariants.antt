use Rattle.std.proofs.Common.{All, List, length, map, ℕ, ◌≡◌}
use Rattle.zq_links.specs.Frame.{IsWritable, frame_of}
use Rattle.zq_node.specs.Calls.{AreCalled, MadeNoStep}
use Rattle.zq_node.specs.Gained.{TookNothing}
use Rattle.zq_node.specs.Hearing.{haves_from, shown_from}
use Rattle.zq_node.specs.Node.{IsNode, IsSameHome, parked_of, pass_of, site_of}
use Rattle.zq_node.proofs.node.Node.haves.Given as goal

abbrev pub invariant-loop-heap : goal.invariant-loop-heap
invariant-loop-heap g l =
    IsNode l.self × IsSameHome l.fn.self l.self × (parked_of l.self ≡ parked_of l.fn.self)
    × ((vectors : List (List ℕ)) × (length vectors ≡ l.heap) × AreCalled (site_of l.fn.self) (pass_of l.fn.self) (pass_of l.self) (shown_from 0 vectors)
    × (map frame_of l.frames.items ≡ haves_from (site_of l.fn.self) 0 vectors))
    × All IsWritable l.frames.items × MadeNoStep (pass_of l.fn.self) (pass_of l.self)
    × TookNothing (pass_of l.fn.self) (pass_of l.self)
