use Rattle.std.proofs.Common.{All, length, ◌+◌, ◌≡◌, ◌≤◌}
use Rattle.std.specs.Prelude.{vec_capacity, vec_len}
use Rattle.std.specs.Vec.Iter.{into_iter_items, into_iter_len}
use Rattle.zq_node.proofs.Workers.{IsToBeStarted}
use Rattle.zq_node.specs.Duties.{duties_of}
use Rattle.zq_node.proofs.working.start_all.Given as goal
use Rattle.zq_spread.specs.Passes.{IsPassOf}

abbrev pub invariant-loop-list : goal.invariant-loop-list
invariant-loop-list g l =
    (into_iter_len l.list-iterator ≡ length (into_iter_items l.list-iterator))
    × (into_iter_len l.passes ≡ length (into_iter_items l.passes))
    × (length (into_iter_items l.passes) ≡ length (into_iter_items l.list-iterator))
    × (vec_len l.workers + length (into_iter_items l.list-iterator) ≤ vec_capacity l.workers)
    × All (IsPassOf l.site) (into_iter_items l.passes)
    × IsToBeStarted l.site (into_iter_items l.initial.list-iterator) (into_iter_items l.list-iterator) (into_iter_items l.initial.passes) (into_iter_items l.passes) (duties_of l.workers.items)
