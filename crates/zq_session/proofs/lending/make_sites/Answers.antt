use Rattle.std.proofs.Common.{ap, subst, sym, take, ◌∙◌, ◌+◌, ◌++◌, ◌∷◌, []}
use Rattle.std.proofs.lemmas.List.{take_more}
use Rattle.std.specs.List.{AllZip}
use Rattle.zq_session.proofs.MadeAndLent.{zip_more}
use Rattle.zq_session.proofs.lending.make_sites.Goals as goal
use Rattle.zq_session.specs.LentSites.{IsMadeBy}

pub loop-plan-preserved : goal.loop-plan-preserved
loop-plan-preserved c =
    let plans = c.args.plans.now in
    let i = c.loop-plan.plan-index in
    subst (λ made. AllZip IsMadeBy (take (i + 1) plans) made) (sym c.in_ok-push.ensures.items)
    (zip_more IsMadeBy plans c.loop-plan.made.items i c.plan-item.result c.in_ok-one.one
    (take_more plans i c.plan-item.result c.loop-plan-test.true ∙ ap (λ plan. take i plans ++ plan ∷ []) (sym c.plan-item.is))
    c.loop-plan.invariant c.in_ok-one.ensures)
