use Rattle.std.proofs.Common.{ap, arith, inl, subst, sym, ◌∙◌}
use Rattle.std.specs.Prelude.{[], ℕ, ◌<◌, ◌∷◌, ◌≡◌}
use Rattle.zq_dots.specs.Rule.{rule_of}
use Rattle.zq_model.specs.Books.{Book}
use Rattle.zq_model.specs.Reach.{IsWorked}
use Rattle.zq_journal.specs.Books.{state_of}
use Rattle.zq_queue.proofs.Sames.{same_rules}
use Rattle.zq_shard.specs.Shard.{IsSameHeap}
use Rattle.zq_spread.proofs.OneHeap.{begun_on, begun_same_heap, begun_same_rule, called_in, may_end_in}
use Rattle.zq_spread.proofs.site.Site.take_over.Goals as goal
use Rattle.zq_spread.specs.Answers.{HasWorked, IsTakenOver}
use Rattle.zq_spread.specs.Calls.{IsCall, IsLikeSite, heaps_of}
use Rattle.zq_spread.specs.declared.locked_heap.LockedHeap.{LockedHeap}

pub take_over-taken-requires-clause-stamp : goal.take_over-taken-requires-clause-stamp
take_over-taken-requires-clause-stamp g c =
    let heaps : c.args.other.now.heaps ≡ heaps_of c.args.self.now = omega (arith, c.heaps.ensures.same, c.from.ensures, c.if-from-len.false, c.len.ensures) in
    let within : c.from-heap.result < heaps_of c.args.self.now = omega (arith, heaps, c.heap.ensures.below, c.from-heap.ensures) in
    let is = begun_on c.args.self.now c.args.pass.now c.from-heap.result c.in-Ok.stamp c.in-Ok.held within c.in-Ok.ensures.given c.in-Ok.ensures.begun in
    let same : c.value_mut.result.now.book.stamp ≡ c.in-Ok.stamp = ap (λ (v : LockedHeap). v.book.stamp) c.value_mut.ensures.value ∙ is.4.worked.stamp_is in
    omega (arith, same)

pub take_over-taken-requires-clause-same_heap : goal.take_over-taken-requires-clause-same_heap
take_over-taken-requires-clause-same_heap g c =
    let heaps : c.args.other.now.heaps ≡ heaps_of c.args.self.now = omega (arith, c.heaps.ensures.same, c.from.ensures, c.if-from-len.false, c.len.ensures) in
    let rule : c.args.other.now.rule ≡ rule_of c.args.self.now.rule = sym c.rule.ensures ∙ same_rules c.rule.result c.args.self.now.rule c.ne.result c.ne.ensures c.if-ne.false in
    let like : IsLikeSite c.args.self.now c.args.other.now = record { heaps = heaps; rule = rule } in
    let within : c.from-heap.result < heaps_of c.args.self.now = omega (arith, heaps, c.heap.ensures.below, c.from-heap.ensures) in
    let here : c.args.other.now.heap ≡ c.from-heap.result = omega (arith, c.from-heap.ensures, c.heap.ensures.same) in
    let is = begun_on c.args.self.now c.args.pass.now c.from-heap.result c.in-Ok.stamp c.in-Ok.held within c.in-Ok.ensures.given c.in-Ok.ensures.begun in
    subst (λ (v : LockedHeap). IsSameHeap (state_of v.book) c.args.other.now) (sym c.value_mut.ensures.value)
    (begun_same_heap c.args.self.now is.0 c.from-heap.result c.in-Ok.stamp c.args.other.now c.in-Ok.held.value is.2 (c.requires.pass.slots c.from-heap.result is.0 is.1) is.4.worked is.4.of like here)

pub take_over-taken-requires-clause-same_rule : goal.take_over-taken-requires-clause-same_rule
take_over-taken-requires-clause-same_rule g c =
    let heaps : c.args.other.now.heaps ≡ heaps_of c.args.self.now = omega (arith, c.heaps.ensures.same, c.from.ensures, c.if-from-len.false, c.len.ensures) in
    let rule : c.args.other.now.rule ≡ rule_of c.args.self.now.rule = sym c.rule.ensures ∙ same_rules c.rule.result c.args.self.now.rule c.ne.result c.ne.ensures c.if-ne.false in
    let like : IsLikeSite c.args.self.now c.args.other.now = record { heaps = heaps; rule = rule } in
    let within : c.from-heap.result < heaps_of c.args.self.now = omega (arith, heaps, c.heap.ensures.below, c.from-heap.ensures) in
    let is = begun_on c.args.self.now c.args.pass.now c.from-heap.result c.in-Ok.stamp c.in-Ok.held within c.in-Ok.ensures.given c.in-Ok.ensures.begun in
    ap (λ (v : LockedHeap). v.book.rule) c.value_mut.ensures.value
    ∙ begun_same_rule c.args.self.now is.0 c.from-heap.result c.in-Ok.stamp c.args.other.now c.in-Ok.held.value is.2 (c.requires.pass.slots c.from-heap.result is.0 is.1) is.4.worked is.4.of like

pub end_in-requires-clause-worked : goal.end_in-requires-clause-worked
end_in-requires-clause-worked g c =
    let held = c.in-Ok.held in
    let works = λ (a : Book) (begun : IsWorked held.value.book a c.in-Ok.stamp []).
    c.take_over-taken.ensures.worked a (subst (λ (v : LockedHeap). IsWorked v.book a c.in-Ok.stamp []) (sym c.value_mut.ensures.value) begun) in
    may_end_in (IsTakenOver c.in-Ok.stamp c.args.other.now c.take_over-taken.result) c.args.self.now c.args.pass.now c.from-heap.result c.in-Ok.stamp held c.take_over-taken.new.self c.in-Ok.ensures.begun works
    (c.take_over-taken.ensures.total ∙ ap (λ (v : LockedHeap). v.total) c.value_mut.ensures.value)

pub returns-clause-wrong_heap : goal.returns-clause-wrong_heap
returns-clause-wrong_heap g c =
    let heaps : c.args.other.now.heaps ≡ heaps_of c.args.self.now = omega (arith, c.heaps.ensures.same, c.from.ensures, c.if-from-len.false, c.len.ensures) in
    let within : c.from-heap.result < heaps_of c.args.self.now = omega (arith, heaps, c.heap.ensures.below, c.from-heap.ensures) in
    let is = begun_on c.args.self.now c.args.pass.now c.from-heap.result c.in-Ok.stamp c.in-Ok.held within c.in-Ok.ensures.given c.in-Ok.ensures.begun in
    let done : HasWorked (IsTakenOver c.in-Ok.stamp c.args.other.now c.take_over-taken.result) c.take_over-taken.new.self.book is.2.book c.in-Ok.stamp =
    c.take_over-taken.ensures.worked is.2.book (subst (λ (v : LockedHeap). IsWorked v.book is.2.book c.in-Ok.stamp []) (sym c.value_mut.ensures.value) is.4.worked) in (
      (λ e of. subst (λ r. IsTakenOver c.in-Ok.stamp c.args.other.now r (is.2.book ∷ []) (done.0 ∷ [])) e done.2),
      (λ none. absurd (none heaps)),
    )

pub returns-clause-wrong_rule : goal.returns-clause-wrong_rule
returns-clause-wrong_rule g c =
    let heaps : c.args.other.now.heaps ≡ heaps_of c.args.self.now = omega (arith, c.heaps.ensures.same, c.from.ensures, c.if-from-len.false, c.len.ensures) in
    let rule : c.args.other.now.rule ≡ rule_of c.args.self.now.rule = sym c.rule.ensures ∙ same_rules c.rule.result c.args.self.now.rule c.ne.result c.ne.ensures c.if-ne.false in
    let within : c.from-heap.result < heaps_of c.args.self.now = omega (arith, heaps, c.heap.ensures.below, c.from-heap.ensures) in
    let is = begun_on c.args.self.now c.args.pass.now c.from-heap.result c.in-Ok.stamp c.in-Ok.held within c.in-Ok.ensures.given c.in-Ok.ensures.begun in
    let done : HasWorked (IsTakenOver c.in-Ok.stamp c.args.other.now c.take_over-taken.result) c.take_over-taken.new.self.book is.2.book c.in-Ok.stamp =
    c.take_over-taken.ensures.worked is.2.book (subst (λ (v : LockedHeap). IsWorked v.book is.2.book c.in-Ok.stamp []) (sym c.value_mut.ensures.value) is.4.worked) in (
      (λ e. absurd (subst (λ r. IsTakenOver c.in-Ok.stamp c.args.other.now r (is.2.book ∷ []) (done.0 ∷ [])) e done.2)),
      (λ both. absurd (both.1 rule)),
    )

pub returns-clause-called : goal.returns-clause-called
returns-clause-called g c = λ like.
    let held = c.in-Ok.held in
    let heap : ℕ = c.from-heap.result in
    let works = λ (a : Book) (begun : IsWorked held.value.book a c.in-Ok.stamp []).
    c.take_over-taken.ensures.worked a (subst (λ (v : LockedHeap). IsWorked v.book a c.in-Ok.stamp []) (sym c.value_mut.ensures.value) begun) in
    let heaps : c.args.other.now.heaps ≡ heaps_of c.args.self.now = like.heaps in
    let within : heap < heaps_of c.args.self.now = omega (arith, heaps, c.heap.ensures.below, c.from-heap.ensures) in
    let here : c.args.other.now.heap ≡ heap = omega (arith, c.from-heap.ensures, c.heap.ensures.same) in
    let call : IsCall (IsTakenOver c.in-Ok.stamp c.args.other.now c.take_over-taken.result) c.args.pass.now c.end_in.new.pass (heap ∷ []) =
    called_in (IsTakenOver c.in-Ok.stamp c.args.other.now c.take_over-taken.result) c.args.self.now c.args.pass.now c.begin_in.new.pass c.end_in.new.pass heap c.in-Ok.stamp held c.take_over-taken.new.self within c.in-Ok.ensures.given c.in-Ok.ensures.begun works c.end_in.ensures.stamp c.end_in.ensures.seen c.end_in.ensures.steps c.in-Ok.ensures.others c.in-Ok.ensures.steps c.end_in.ensures.others c.in-Ok.ensures.turns in
    inl (subst (λ n. IsCall (IsTakenOver n c.args.other.now c.take_over-taken.result) c.args.pass.now c.end_in.new.pass (c.args.other.now.heap ∷ [])) (sym c.end_in.ensures.stamp)
    (subst (λ h. IsCall (IsTakenOver c.in-Ok.stamp c.args.other.now c.take_over-taken.result) c.args.pass.now c.end_in.new.pass (h ∷ [])) (sym here) call))
