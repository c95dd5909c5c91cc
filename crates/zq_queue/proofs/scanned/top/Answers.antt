use Rattle.std.proofs.Common.{subst, sym, ◌∙◌}
use Rattle.std.specs.Prelude.{option_map, take, ◌+◌}
use Rattle.zq_dots.specs.Rule.{rule_of}
use Rattle.zq_queue.proofs.Scans.{step_one, step_same}
use Rattle.zq_queue.specs.Few.{pairs_by}
use Rattle.zq_queue.specs.Least.{IsLeastOf}
use Rattle.zq_queue.specs.Lent.{lent_pair}
use Rattle.zq_queue.proofs.scanned.top.Goals.{else-goes_before, then-goes_before}
use Rattle.zq_queue.proofs.scanned.top.Goals as goal

pub loop-member-preserved : goal.loop-member-preserved
loop-member-preserved c =
    let rule = rule_of c.args.rule in
    let list = c.args.list.now in
    let i = c.loop-member.member-index in
    let least = option_map lent_pair c.loop-member.least in
    let pair = lent_pair c.scored-pair.result in
    elim c.if-goes_before.branch [
      | then-goes_before w ↦ subst (λ o. IsLeastOf (pairs_by rule (take (i + 1) list)) (option_map lent_pair o)) (sym w.least-is)
          (step_one rule list i c.member-item.result least pair c.loop-member-test.true c.member-item.is c.scored-pair.ensures c.loop-member.invariant (sym c.goes_before.ensures ∙ w.if-goes_before.true))
      | else-goes_before w ↦ subst (λ o. IsLeastOf (pairs_by rule (take (i + 1) list)) (option_map lent_pair o)) (sym w.least-is)
          (step_same rule list i c.member-item.result least pair c.loop-member-test.true c.member-item.is c.scored-pair.ensures c.loop-member.invariant (sym c.goes_before.ensures ∙ w.if-goes_before.false))
    ]
