use Rattle.std.proofs.Common.{[], ap, subst, sym, ◌∙◌, ◌∷◌}
use Rattle.std.specs.List.{AllZip}
use Rattle.zq_journal.specs.Limits.{limits_of}
use Rattle.zq_session.specs.LentSites.{IsLentBy}
use Rattle.zq_site.proofs.Planned.{one_plan}
use Rattle.zq_site.proofs.serving.serve_site.Goals as goal

pub serve_lent-ended-requires-after_bounds : goal.serve_lent-ended-requires-after_bounds
serve_lent-ended-requires-after_bounds g c κs within =
    let plan = c.plan_of.result in
    let is = c.plan_of.ensures in
    let tails = ap limits_of is.tails ∙ c.tails.ensures in (
      plan ∷ [],
      one_plan c.args.settings.now c.workers_of-workers.result plan is.number is.heaps is.rule is.servers tails,
      subst (AllZip IsLentBy (plan ∷ [])) (sym c.deref_mut-in-Ok.ensures.value) c.in-Ok.ensures,
    )
