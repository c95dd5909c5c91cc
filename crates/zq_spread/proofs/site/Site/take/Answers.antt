use Rattle.std.proofs.Common.{ap, arith, inl, subst, sym, ◌∙◌}
use Rattle.std.specs.Prelude.{[], ℕ, ◌<◌, ◌∷◌, ◌≡◌}
use Rattle.zq_model.specs.Books.{Book}
use Rattle.zq_model.specs.Reach.{IsWorked}
use Rattle.zq_journal.specs.Books.{state_of}
use Rattle.zq_shard.specs.Shard.{IsOfHeap}
use Rattle.zq_spread.proofs.OneHeap.{begun_of_heap, begun_on, called_in, may_end_in}
use Rattle.zq_spread.proofs.site.Site.take.Goals as goal
use Rattle.zq_spread.specs.Answers.{HasWorked, IsTaken}
use Rattle.zq_spread.specs.Calls.{IsCall, heaps_of}
use Rattle.zq_spread.specs.declared.locked_heap.LockedHeap.{LockedHeap}

pub take-taken-requires-clause-stamp : goal.take-taken-requires-clause-stamp
take-taken-requires-clause-stamp g c =
    let of = c.has_place.ensures.0 c.if-not-has_place.false in
    let within : c.from-heap.result < heaps_of c.args.self.now = let e = of.heaps in omega (arith, e, c.heap.ensures.below, c.from-heap.ensures) in
    let is = begun_on c.args.self.now c.args.pass.now c.from-heap.result c.in-Ok.stamp c.in-Ok.held within c.in-Ok.ensures.given c.in-Ok.ensures.begun in
    let same : c.value_mut.result.now.book.stamp ≡ c.in-Ok.stamp = ap (λ (v : LockedHeap). v.book.stamp) c.value_mut.ensures.value ∙ is.4.worked.stamp_is in
    omega (arith, same)

pub take-taken-requires-clause-of_heap : goal.take-taken-requires-clause-of_heap
take-taken-requires-clause-of_heap g c =
    let of = c.has_place.ensures.0 c.if-not-has_place.false in
    let within : c.from-heap.result < heaps_of c.args.self.now = let e = of.heaps in omega (arith, e, c.heap.ensures.below, c.from-heap.ensures) in
    let here : c.args.op.now.operation.heap ≡ c.from-heap.result = omega (arith, c.from-heap.ensures, c.heap.ensures.same) in
    let is = begun_on c.args.self.now c.args.pass.now c.from-heap.result c.in-Ok.stamp c.in-Ok.held within c.in-Ok.ensures.given c.in-Ok.ensures.begun in
    subst (λ (v : LockedHeap). IsOfHeap (state_of v.book) c.args.op.now) (sym c.value_mut.ensures.value)
    (begun_of_heap c.args.self.now is.0 c.from-heap.result c.args.pass.now.stamp c.in-Ok.stamp c.args.op.now c.in-Ok.held.value is.2 (c.requires.pass.slots c.from-heap.result is.0 is.1) is.4.worked is.4.of of here)

pub end_in-requires-clause-worked : goal.end_in-requires-clause-worked
end_in-requires-clause-worked g c =
    let held = c.in-Ok.held in
    let works = λ (a : Book) (begun : IsWorked held.value.book a c.in-Ok.stamp []).
    c.take-taken.ensures.worked a (subst (λ (v : LockedHeap). IsWorked v.book a c.in-Ok.stamp []) (sym c.value_mut.ensures.value) begun) in
    may_end_in (IsTaken c.in-Ok.stamp c.args.op.now c.take-taken.result) c.args.self.now c.args.pass.now c.from-heap.result c.in-Ok.stamp held c.take-taken.new.self c.in-Ok.ensures.begun works
    (c.take-taken.ensures.total ∙ ap (λ (v : LockedHeap). v.total) c.value_mut.ensures.value)

pub returns-clause-wrong_heap : goal.returns-clause-wrong_heap
returns-clause-wrong_heap g c =
    let of = c.has_place.ensures.0 c.if-not-has_place.false in
    let within : c.from-heap.result < heaps_of c.args.self.now = let e = of.heaps in omega (arith, e, c.heap.ensures.below, c.from-heap.ensures) in
    let is = begun_on c.args.self.now c.args.pass.now c.from-heap.result c.in-Ok.stamp c.in-Ok.held within c.in-Ok.ensures.given c.in-Ok.ensures.begun in
    let done : HasWorked (IsTaken c.in-Ok.stamp c.args.op.now c.take-taken.result) c.take-taken.new.self.book is.2.book c.in-Ok.stamp =
    c.take-taken.ensures.worked is.2.book (subst (λ (v : LockedHeap). IsWorked v.book is.2.book c.in-Ok.stamp []) (sym c.value_mut.ensures.value) is.4.worked) in (
      (λ e site. subst (λ r. IsTaken c.in-Ok.stamp c.args.op.now r (is.2.book ∷ []) (done.0 ∷ [])) e done.2),
      (λ none. absurd (none of)),
    )

pub returns-clause-called : goal.returns-clause-called
returns-clause-called g c = λ of.
    let held = c.in-Ok.held in
    let heap : ℕ = c.from-heap.result in
    let works = λ (a : Book) (begun : IsWorked held.value.book a c.in-Ok.stamp []).
    c.take-taken.ensures.worked a (subst (λ (v : LockedHeap). IsWorked v.book a c.in-Ok.stamp []) (sym c.value_mut.ensures.value) begun) in
    let within : heap < heaps_of c.args.self.now = let e = of.heaps in omega (arith, e, c.heap.ensures.below, c.from-heap.ensures) in
    let here : c.args.op.now.operation.heap ≡ heap = omega (arith, c.from-heap.ensures, c.heap.ensures.same) in
    let call : IsCall (IsTaken c.in-Ok.stamp c.args.op.now c.take-taken.result) c.args.pass.now c.end_in.new.pass (heap ∷ []) =
    called_in (IsTaken c.in-Ok.stamp c.args.op.now c.take-taken.result) c.args.self.now c.args.pass.now c.begin_in.new.pass c.end_in.new.pass heap c.in-Ok.stamp held c.take-taken.new.self within c.in-Ok.ensures.given c.in-Ok.ensures.begun works c.end_in.ensures.stamp c.end_in.ensures.seen c.end_in.ensures.steps c.in-Ok.ensures.others c.in-Ok.ensures.steps c.end_in.ensures.others c.in-Ok.ensures.turns in
    inl (subst (λ n. IsCall (IsTaken n c.args.op.now c.take-taken.result) c.args.pass.now c.end_in.new.pass (c.args.op.now.operation.heap ∷ [])) (sym c.end_in.ensures.stamp)
    (subst (λ h. IsCall (IsTaken c.in-Ok.stamp c.args.op.now c.take-taken.result) c.args.pass.now c.end_in.new.pass (h ∷ [])) (sym here) call))
