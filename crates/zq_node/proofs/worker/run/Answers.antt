use Rattle.std.proofs.Common.{ap, drop, rules, subst, sym, ◌+◌, ◌∙◌, ◌∷◌, ◌≡◌, []}
use Rattle.std.proofs.lemmas.List.{drop_all, drop_more}
use Rattle.zq_node.proofs.Workers.{IsToBeWorked, all_worked, one_worked}
use Rattle.zq_node.proofs.worker.run.Goals as goal
use Rattle.zq_node.specs.Workers.{AreWorked}

pub loop-job-preserved : goal.loop-job-preserved
loop-job-preserved g c =
    let at = c.loop-job in
    let all = c.deref-job-items.result.now in
    let i = at.job-index in
    let job = c.job-item.result in
    let site = c.args.site.now in
    let rest : drop i all ≡ job ∷ drop (i + 1) all = drop_more all i job c.loop-job-test.true ∙ ap (λ j. j ∷ drop (i + 1) all) (sym c.job-item.is) in
    let before = subst (λ l. IsToBeWorked site all l at.replies.items c.args.pass at.pass) rest at.invariant.3 in (
      c.call_once.ensures.pass,
      search rules,
      search rules,
      one_worked site all (drop (i + 1) all) job at.replies.items c.push_reserved.new.self.items c.call_once.result c.args.pass at.pass c.call_once.new.pass before c.call_once.ensures.called c.call_once.ensures.writable c.push_reserved.ensures.items,
    )

pub returns-clause-worked : goal.returns-clause-worked
returns-clause-worked g c =
    let at = c.loop-job in
    let all = c.deref-job-items.result.now in
    let site = c.args.site.now in
    let none : drop at.job-index all ≡ [] = drop_all at.job-index all c.loop-job-test.false in
    let whole = all_worked site all at.replies.items c.args.pass at.pass (subst (λ l. IsToBeWorked site all l at.replies.items c.args.pass at.pass) none at.invariant.3) in
    subst (λ l. AreWorked site l at.replies.items c.args.pass at.pass) c.deref-job-items.ensures.value whole
