use Rattle.std.proofs.Common.{ap, refl, subst, sym, ◌∙◌}
use Rattle.std.specs.Prelude.{[], ℕ, ◌<◌, ◌∷◌, ◌≡◌}
use Rattle.zq_model.specs.Books.{Book}
use Rattle.zq_model.specs.Reach.{IsWorked}
use Rattle.zq_shard.specs.Shard.{HeapImage}
use Rattle.zq_spread.proofs.OneHeap.{called_in, may_end_in}
use Rattle.zq_spread.proofs.Readings.{shown_by}
use Rattle.zq_spread.proofs.site.Site.vector.Goals as goal
use Rattle.zq_spread.specs.Answers.{IsShown}
use Rattle.zq_spread.specs.Calls.{IsCall, heaps_of}
use Rattle.zq_spread.specs.declared.locked_heap.LockedHeap.{LockedHeap}

pub end_in-requires-clause-worked : goal.end_in-requires-clause-worked
end_in-requires-clause-worked g c =
    let held = c.in-Ok.held in
    let shown : c.vector-vector.result.now ≡ held.value.book.state.vector =
    c.vector-vector.ensures.same ∙ ap (λ (s : HeapImage). s.image.vector) c.shard.ensures.same ∙ ap (λ (v : LockedHeap). v.book.state.vector) c.value.ensures in
    let works = λ (a : Book) (begun : IsWorked held.value.book a c.in-Ok.stamp []). shown_by c.vector-vector.result.now held.value.book a c.in-Ok.stamp shown begun in
    may_end_in (IsShown c.vector-vector.result.now) c.args.self.now c.args.pass.now c.from-heap.result c.in-Ok.stamp held held.value c.in-Ok.ensures.begun works refl

pub returns-clause-called : goal.returns-clause-called
returns-clause-called g c =
    let held = c.in-Ok.held in
    let heap : ℕ = c.from-heap.result in
    let shown : c.vector-vector.result.now ≡ held.value.book.state.vector =
    c.vector-vector.ensures.same ∙ ap (λ (s : HeapImage). s.image.vector) c.shard.ensures.same ∙ ap (λ (v : LockedHeap). v.book.state.vector) c.value.ensures in
    let works = λ (a : Book) (begun : IsWorked held.value.book a c.in-Ok.stamp []). shown_by c.vector-vector.result.now held.value.book a c.in-Ok.stamp shown begun in
    let within : heap < heaps_of c.args.self.now = subst (λ h. h < heaps_of c.args.self.now) (sym c.from-heap.ensures) c.requires.heap in
    let call : IsCall (IsShown c.vector-vector.result.now) c.args.pass.now c.end_in.new.pass (heap ∷ []) =
    called_in (IsShown c.vector-vector.result.now) c.args.self.now c.args.pass.now c.begin_in.new.pass c.end_in.new.pass heap c.in-Ok.stamp held held.value within c.in-Ok.ensures.given c.in-Ok.ensures.begun works c.end_in.ensures.stamp c.end_in.ensures.seen c.end_in.ensures.steps c.in-Ok.ensures.others c.in-Ok.ensures.steps c.end_in.ensures.others c.in-Ok.ensures.turns in
    subst (λ h. IsCall (IsShown c.vector-vector.result.now) c.args.pass.now c.end_in.new.pass (h ∷ [])) c.from-heap.ensures call
