use Rattle.std.proofs.Common.{inl, inr, refl, ◌≡◌, ◌⊎◌}
use Rattle.zq_links.specs.declared.frame.Frame.TheVariants as heard
use Rattle.zq_node.proofs.Told.{have_fault, if_err, if_err_map, ok_always, own_fault}
use Rattle.zq_node.proofs.node.Node.hear_have.Goals as goal
use Rattle.zq_node.specs.Faults.{IsOwnFault}
use Rattle.zq_node.specs.Hearing.{IsFaultOf}

pub returns-in_err-judge-clause-fault : goal.returns-in_err-judge-clause-fault
returns-in_err-judge-clause-fault g c =
    let site = c.args.self.now.home.site.now in
    if_err (IsFaultOf site (heard.Have c.args.have.now)) c.from_residual.result c.in_err-judge.field-0.0 c.from_residual.ensures.1 (have_fault site c.args.have.now c.in_err-judge.field-0.0 c.in_err-judge.ensures.wrong)

pub returns-in_err-judge-clause-unheard : goal.returns-in_err-judge-clause-unheard
returns-in_err-judge-clause-unheard g c = if_err (λ f. IsOwnFault f ⊎ (c.args.self.now ≡ c.args.self.now)) c.from_residual.result c.in_err-judge.field-0.0 c.from_residual.ensures.1 (inr refl)

pub returns-clause-fault : goal.returns-clause-fault
returns-clause-fault g c =
    let site = c.args.self.now.home.site.now in
    if_err_map c.answer.result c.answer.ensures.fault (λ why own. own_fault site (heard.Have c.args.have.now) why own c.in_ok-judge.ensures.right.0 c.in_ok-judge.ensures.right.1)

pub returns-clause-unheard : goal.returns-clause-unheard
returns-clause-unheard g c = if_err_map c.answer.result c.answer.ensures.fault (λ _ own. inl own)

pub returns-clause-right : goal.returns-clause-right
returns-clause-right g c = ok_always c.answer.result c.in_ok-judge.ensures.right
