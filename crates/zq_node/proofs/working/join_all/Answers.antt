use Rattle.std.proofs.Common.{subst, sym, ◌∙◌, ◌≡◌, []}
use Rattle.std.specs.List.{AllZip}
use Rattle.std.specs.Vec.Iter.{into_iter_items}
use Rattle.zq_node.proofs.Workers.{IsToBeDone, all_done}
use Rattle.zq_node.proofs.working.join_all.Goals as goal
use Rattle.zq_node.specs.Duties.{IsDone, duties_of}
use Rattle.zq_spread.proofs.Places.{nothing_left}

pub returns : goal.returns
returns g c =
    let at = c.loop-worker in
    let every = c.into_iter-worker-iterator.result in
    let empty : into_iter_items at.worker-iterator ≡ [] = nothing_left _ (sym at.invariant.0 ∙ c.in-None.ensures.steps.0) in
    let whole = all_done (duties_of (into_iter_items every)) at.done.items (subst (λ l. IsToBeDone (duties_of (into_iter_items every)) (duties_of l) at.done.items) empty at.invariant.2) in
    record { done = subst (λ l. AllZip IsDone (duties_of l) at.done.items) c.into_iter-worker-iterator.ensures.into_iter_gives.0 whole }
