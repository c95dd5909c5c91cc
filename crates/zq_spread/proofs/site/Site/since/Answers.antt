use Rattle.std.proofs.Common.{inl, refl, subst, sym}
use Rattle.std.specs.Prelude.{IfOk, [], ℕ, ◌<◌, ◌∷◌}
use Rattle.zq_model.specs.Books.{Book}
use Rattle.zq_model.specs.Reach.{IsWorked}
use Rattle.zq_spread.proofs.OneHeap.{called_in, may_end_in}
use Rattle.zq_spread.proofs.Readings.{answered_of, asked_by}
use Rattle.zq_spread.proofs.site.Site.since.Goals as goal
use Rattle.zq_spread.specs.Answers.{IsAsked, IsSince, read_of}
use Rattle.zq_spread.specs.Calls.{HasSeenBook, IsCall, heaps_of}
use Rattle.zq_spread.specs.declared.locked_heap.LockedHeap.{LockedHeap}

pub end_in-requires-clause-worked : goal.end_in-requires-clause-worked
end_in-requires-clause-worked g c =
    let held = c.in-Ok.held in
    let works = λ (a : Book) (begun : IsWorked held.value.book a c.in-Ok.stamp []).
    asked_by c.args.vector.now c.since-since.result held.value.book a c.in-Ok.stamp (subst (λ (v : LockedHeap). read_of (IsSince c.args.vector.now) c.since-since.result v.book) c.value.ensures c.since-since.ensures) begun in
    may_end_in (IsAsked c.since-since.result) c.args.self.now c.args.pass.now c.from-heap.result c.in-Ok.stamp held held.value c.in-Ok.ensures.begun works refl

pub returns-clause-called : goal.returns-clause-called
returns-clause-called g c =
    let held = c.in-Ok.held in
    let heap : ℕ = c.from-heap.result in
    let works = λ (a : Book) (begun : IsWorked held.value.book a c.in-Ok.stamp []).
    asked_by c.args.vector.now c.since-since.result held.value.book a c.in-Ok.stamp (subst (λ (v : LockedHeap). read_of (IsSince c.args.vector.now) c.since-since.result v.book) c.value.ensures c.since-since.ensures) begun in
    let within : heap < heaps_of c.args.self.now = subst (λ h. h < heaps_of c.args.self.now) (sym c.from-heap.ensures) c.requires.heap in
    let call : IsCall (IsAsked c.since-since.result) c.args.pass.now c.end_in.new.pass (heap ∷ []) =
    called_in (IsAsked c.since-since.result) c.args.self.now c.args.pass.now c.begin_in.new.pass c.end_in.new.pass heap c.in-Ok.stamp held held.value within c.in-Ok.ensures.given c.in-Ok.ensures.begun works c.end_in.ensures.stamp c.end_in.ensures.seen c.end_in.ensures.steps c.in-Ok.ensures.others c.in-Ok.ensures.steps c.end_in.ensures.others c.in-Ok.ensures.turns in
    inl (subst (λ h. IsCall (IsAsked c.since-since.result) c.args.pass.now c.end_in.new.pass (h ∷ [])) c.from-heap.ensures call)

pub returns-clause-answered : goal.returns-clause-answered
returns-clause-answered g c =
    let saw = c.end_in.ensures.seen in
    let said = subst (λ (v : LockedHeap). read_of (IsSince c.args.vector.now) c.since-since.result v.book) c.value.ensures c.since-since.ensures in
    subst (λ h. IfOk c.since-since.result (λ since. HasSeenBook c.end_in.new.pass h (IsSince c.args.vector.now since))) c.from-heap.ensures
    (answered_of c.args.vector.now c.since-since.result c.in-Ok.held.value.book c.end_in.new.pass c.from-heap.result said (saw.0, saw.1, saw.2))
