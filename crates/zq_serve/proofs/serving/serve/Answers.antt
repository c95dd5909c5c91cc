use Rattle.std.proofs.Common.{subst, sym}
use Rattle.std.specs.List.{AllZip}
use Rattle.zq_serve.proofs.ThreadLists.{planned_sites}
use Rattle.zq_serve.proofs.serving.serve.Goals as goal
use Rattle.zq_serve.specs.Plans.{ArePlanned}
use Rattle.zq_session.specs.LentSites.{IsLentBy}

pub serve_lent-ended-requires-after_bounds : goal.serve_lent-ended-requires-after_bounds
serve_lent-ended-requires-after_bounds g c κs within =
    let settings = c.args.settings.now in
    let lent = c.in-Ok.lent.items in
    let by_plans = subst (λ plans. AllZip IsLentBy plans lent) c.deref-2.ensures.value c.in-Ok.ensures in
    subst (ArePlanned settings) (sym c.deref_mut-in-Ok.ensures.value) (planned_sites settings c.in_ok-plans.plans.items lent c.in_ok-plans.ensures by_plans)
