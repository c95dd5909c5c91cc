use Rattle.std.proofs.Common.{ap, arith, subst, sym, ◌∙◌}
use Rattle.std.specs.Prelude.{[], ℕ, ◌<◌, ◌∷◌, ◌≡◌}
use Rattle.zq_model.specs.Books.{Book}
use Rattle.zq_model.specs.Reach.{IsWorked}
use Rattle.zq_spread.proofs.OneHeap.{begun_on, called_in, may_end_in}
use Rattle.zq_spread.proofs.site.Site.take_all.Goals as goal
use Rattle.zq_spread.specs.Batches.{IsTakenAll}
use Rattle.zq_spread.specs.Calls.{IsCall, heaps_of}
use Rattle.zq_spread.specs.declared.locked_heap.LockedHeap.{LockedHeap}

pub take_all-taken-requires-clause-stamp : goal.take_all-taken-requires-clause-stamp
take_all-taken-requires-clause-stamp g c =
    let within : c.from-heap.result < heaps_of c.args.self.now = subst (λ h. h < heaps_of c.args.self.now) (sym c.from-heap.ensures) c.requires.heap in
    let is = begun_on c.args.self.now c.args.pass.now c.from-heap.result c.in-Ok.stamp c.in-Ok.held within c.in-Ok.ensures.given c.in-Ok.ensures.begun in
    let same : c.value_mut.result.now.book.stamp ≡ c.in-Ok.stamp = ap (λ (v : LockedHeap). v.book.stamp) c.value_mut.ensures.value ∙ is.4.worked.stamp_is in
    omega (arith, same)

pub end_in-requires-clause-worked : goal.end_in-requires-clause-worked
end_in-requires-clause-worked g c =
    let held = c.in-Ok.held in
    let works = λ (a : Book) (begun : IsWorked held.value.book a c.in-Ok.stamp []).
    c.take_all-taken.ensures.worked a (subst (λ (v : LockedHeap). IsWorked v.book a c.in-Ok.stamp []) (sym c.value_mut.ensures.value) begun) in
    may_end_in (IsTakenAll c.in-Ok.stamp c.args.ops.now c.take_all-taken.result) c.args.self.now c.args.pass.now c.from-heap.result c.in-Ok.stamp held c.take_all-taken.new.self c.in-Ok.ensures.begun works
    (c.take_all-taken.ensures.total ∙ ap (λ (v : LockedHeap). v.total) c.value_mut.ensures.value)

pub returns-clause-called : goal.returns-clause-called
returns-clause-called g c =
    let held = c.in-Ok.held in
    let heap : ℕ = c.from-heap.result in
    let does = IsTakenAll c.in-Ok.stamp c.args.ops.now c.take_all-taken.result in
    let works = λ (a : Book) (begun : IsWorked held.value.book a c.in-Ok.stamp []).
    c.take_all-taken.ensures.worked a (subst (λ (v : LockedHeap). IsWorked v.book a c.in-Ok.stamp []) (sym c.value_mut.ensures.value) begun) in
    let within : heap < heaps_of c.args.self.now = subst (λ h. h < heaps_of c.args.self.now) (sym c.from-heap.ensures) c.requires.heap in
    let call : IsCall does c.args.pass.now c.end_in.new.pass (heap ∷ []) =
    called_in does c.args.self.now c.args.pass.now c.begin_in.new.pass c.end_in.new.pass heap c.in-Ok.stamp held c.take_all-taken.new.self within c.in-Ok.ensures.given c.in-Ok.ensures.begun works c.end_in.ensures.stamp c.end_in.ensures.seen c.end_in.ensures.steps c.in-Ok.ensures.others c.in-Ok.ensures.steps c.end_in.ensures.others c.in-Ok.ensures.turns in
    subst (λ n. IsCall (IsTakenAll n c.args.ops.now c.take_all-taken.result) c.args.pass.now c.end_in.new.pass (c.args.heap ∷ [])) (sym c.end_in.ensures.stamp)
    (subst (λ h. IsCall does c.args.pass.now c.end_in.new.pass (h ∷ [])) c.from-heap.ensures call)
