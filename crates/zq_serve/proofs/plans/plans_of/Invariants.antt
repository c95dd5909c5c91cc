use Rattle.std.proofs.Common.{All, map, ◌≡◌}
use Rattle.zq_journal.specs.Limits.{limits_of}
use Rattle.zq_model.specs.Limits.{standard}
use Rattle.zq_serve.proofs.plans.plans_of.Given as goal
use Rattle.zq_serve.specs.Plans.{planned}
use Rattle.zq_serve.specs.SiteThreads.{sites_before}
use Rattle.zq_session.specs.declared.site_plan.SitePlan.{SitePlan}

abbrev pub invariant-loop-place : goal.invariant-loop-place
invariant-loop-place l = (map planned l.plans.items ≡ sites_before l.settings l.place)
    × All (λ (plan : SitePlan). plan.servers ≡ l.settings.workers) l.plans.items
    × All (λ (plan : SitePlan). limits_of plan.tails ≡ standard) l.plans.items
