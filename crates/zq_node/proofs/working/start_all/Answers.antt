use Rattle.std.proofs.Common.{ap, arith, length, rules, subst, sym, ◌∙◌, ◌∷◌, ◌≡◌, []}
use Rattle.std.proofs.lemmas.List.Elements.{All-head, All-tail}
use Rattle.std.specs.Prelude.{All}
use Rattle.std.specs.Vec.Iter.{into_iter_items}
use Rattle.zq_node.proofs.Workers.{IsToBeStarted, all_started, one_started}
use Rattle.zq_node.proofs.working.start_all.Given.{Over}
use Rattle.zq_node.proofs.working.start_all.Goals as goal
use Rattle.zq_node.proofs.working.start_all.Lts.{arg-13-2}
use Rattle.zq_node.specs.contracts.working.start_all.{G-row, R-row}
use Rattle.zq_node.specs.Duties.{AreDuties, duties_of}
use Rattle.zq_spread.proofs.Places.{nothing_left}
use contract.Lifetimes.{Lfts}
use denote.Param.{param}
use denote.Param.Send.{IsSend, IsSync, sendable}
use Rattle.std.proofs.Crossing.{crosses}
use Rattle.zq_node.proofs.Crossing.{job_send}
use Rattle.zq_resp.proofs.reply.Reply.TheLaws.TheKnot as reply
use Rattle.zq_spread.proofs.Crossing.{pass_send, site_sync}
use Rattle.zq_spread.specs.Passes.{IsPassOf}

pub spawn_with-requires-clause-runs : goal.spawn_with-requires-clause-runs
spawn_with-requires-clause-runs g c κs within =
    let site = c.args.site.now in
    let passes : into_iter_items c.loop-list.passes ≡ c.in-Some-next.pass ∷ into_iter_items c.next-in-loop-list.new.self = c.in-Some-next.ensures.cases.0 in
    let all = subst (All (IsPassOf site)) passes c.loop-list.invariant.4 in (
      All-head (IsPassOf site) c.in-Some-next.pass (into_iter_items c.next-in-loop-list.new.self) all,
      search rules,
    )

pub loop-list-preserved : goal.loop-list-preserved
loop-list-preserved g c =
    let at = c.loop-list in
    let site = c.args.site.now in
    let list = c.in-Some.list in
    let pass = c.in-Some-next.pass in
    let left = into_iter_items c.next.new.self in
    let others = into_iter_items c.next-in-loop-list.new.self in
    let lists : into_iter_items at.list-iterator ≡ list ∷ left = c.in-Some.ensures.steps.0 in
    let passes : into_iter_items at.passes ≡ pass ∷ others = c.in-Some-next.ensures.cases.0 in
    let all = into_iter_items c.into_iter-list-iterator.result in
    let every = into_iter_items c.into_iter-passes.result in
    let fewer = ap length lists in
    let fewer_passes = ap length passes in
    let duty = c.in-Ok.ensures.ok in
    let was = subst (λ p. IsToBeStarted site all (list ∷ left) every p (duties_of at.workers.items)) passes (subst (λ l. IsToBeStarted site all l every (into_iter_items at.passes) (duties_of at.workers.items)) lists at.invariant.5) in (
      (let gone = c.in-Some.ensures.steps.1 in let before = at.invariant.0 in omega arith),
      (let gone = c.in-Some-next.ensures.cases.1 in let before = at.invariant.1 in omega arith),
      (let before = at.invariant.2 in omega arith),
      (let before = at.invariant.3 in let longer = c.push_reserved.ensures.len in let room = c.push_reserved.ensures.capacity in omega arith),
      All-tail (IsPassOf site) pass others (subst (All (IsPassOf site)) passes at.invariant.4),
      one_started site all left every others list pass at.workers.items c.push_reserved.new.self.items c.in-Ok.worker was
          (ap (λ d. d.site.now) duty) (ap (λ d. d.jobs.value) duty ∙ c.of.ensures) (ap (λ d. d.pass.value) duty ∙ c.of-in-loop-list.ensures) c.push_reserved.ensures.items,
    )

pub returns : goal.returns
returns g c =
    let at = c.loop-list in
    let site = c.args.site.now in
    let all = c.into_iter-list-iterator.result in
    let every = c.into_iter-passes.result in
    let duties = duties_of at.workers.items in
    let no_list : into_iter_items at.list-iterator ≡ [] = nothing_left _ (sym at.invariant.0 ∙ c.in-None.ensures.steps.0) in
    let no_pass : into_iter_items at.passes ≡ [] = nothing_left _ (at.invariant.2 ∙ ap length no_list) in
    let is = subst (λ p. IsToBeStarted site (into_iter_items all) [] (into_iter_items every) p duties) no_pass
    (subst (λ l. IsToBeStarted site (into_iter_items all) l (into_iter_items every) (into_iter_items at.passes) duties) no_list at.invariant.5) in
    let whole = all_started site (into_iter_items all) (into_iter_items every) duties is in
    record {
      duties = subst (λ p. AreDuties site c.args.jobs.items p duties) c.into_iter-passes.ensures.rest
          (subst (λ l. AreDuties site l (into_iter_items every) duties) c.into_iter-list-iterator.ensures.into_iter_gives.0 whole);
    }

-- what a worker runs may go to another thread
crosses_over : (g : Over) (κs : Lfts 10) → IsSync (G-row g.row.G g.row.R) → IsSync (R-row g.row.G g.row.R) → IsSend (param 2 (arg-13-2 g.row.G g.row.R g.G.laws g.R.laws g.G.Gate-dict g.R.Threads-dict g.R.Wait-dict κs))
crosses_over g κs gate rt = search (site_sync, pass_send, job_send, sendable, crosses) depth 30 fits 50000

pub spawn_with-requires-send-F : goal.spawn_with-requires-send-F
spawn_with-requires-send-F g c κs within = crosses_over g κs c.type_bounds.sync-G c.type_bounds.sync-R

pub spawn_with-requires-send-T : goal.spawn_with-requires-send-T
spawn_with-requires-send-T g c κs within = search (pass_send, reply.crosses, sendable, crosses) depth 60 fits 50000
