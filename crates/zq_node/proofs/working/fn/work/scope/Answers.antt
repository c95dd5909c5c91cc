use Rattle.zq_node.proofs.Workers.{done_is_worked, done_passes, if_ok}
use Rattle.zq_node.proofs.working.fn.work.scope.Goals as goal
use Rattle.zq_node.specs.Duties.{duties_of}

pub returns : goal.returns
returns g c =
    let site = c.captures.site.now in
    let lists = c.captures.jobs.items in
    let passes = c.captures.passes.items in
    let duties = duties_of c.in_ok-workers.workers.items in
    let are = c.in_ok-workers.ensures.duties in (
      if_ok _ _ c.join_all.result (λ done each. done_is_worked site lists passes duties done.items are each) c.join_all.ensures.done,
      if_ok _ _ c.join_all.result (λ done each. done_passes site lists passes duties done.items are each) c.join_all.ensures.done,
    )
