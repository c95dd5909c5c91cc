use Rattle.std.proofs.Common.{length, ◌+◌, ◌≡◌, ◌≤◌}
use Rattle.std.specs.Prelude.{vec_capacity, vec_len}
use Rattle.std.specs.Vec.Iter.{into_iter_items, into_iter_len}
use Rattle.zq_node.proofs.Workers.{IsToBeDone}
use Rattle.zq_node.specs.Duties.{duties_of}
use Rattle.zq_node.proofs.working.join_all.Given as goal

abbrev pub invariant-loop-worker : goal.invariant-loop-worker
invariant-loop-worker g l =
    (into_iter_len l.worker-iterator ≡ length (into_iter_items l.worker-iterator))
    × (vec_len l.done + length (into_iter_items l.worker-iterator) ≤ vec_capacity l.done)
    × IsToBeDone (duties_of (into_iter_items l.initial.worker-iterator)) (duties_of (into_iter_items l.worker-iterator)) l.done.items
