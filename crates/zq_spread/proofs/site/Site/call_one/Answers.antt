use Rattle.std.proofs.Common.{ap, arith, inl, subst, sym, ◌∙◌}
use Rattle.std.specs.Prelude.{[], ℕ, ◌<◌, ◌∷◌, ◌≡◌}
use Rattle.zq_dots.specs.Rule.{rule_of}
use Rattle.zq_model.specs.Books.{Book}
use Rattle.zq_model.specs.Reach.{IsWorked}
use Rattle.zq_resp.specs.Reply.{reply_bytes}
use Rattle.zq_spread.proofs.OneHeap.{begun_on, called_in, may_end_in}
use Rattle.zq_spread.proofs.site.Site.call_one.Goals as goal
use Rattle.zq_spread.specs.Calls.{IsCall, heaps_of}
use Rattle.zq_spread.specs.Commanded.{IsAnswered}
use Rattle.zq_spread.specs.declared.locked_heap.LockedHeap.{LockedHeap}
use Rattle.zq_words.specs.Heaps as named
use Rattle.zq_words.specs.declared.heaps.Heaps.TheVariants.{One}

pub answer-reply-requires-clause-stamp : goal.answer-reply-requires-clause-stamp
answer-reply-requires-clause-stamp g c =
    let within : c.from-heap.result < heaps_of c.args.self.now = subst (λ h. h < heaps_of c.args.self.now) (sym c.from-heap.ensures) c.requires.heap in
    let is = begun_on c.args.self.now c.args.pass.now c.from-heap.result c.in-Ok.stamp c.in-Ok.held within c.in-Ok.ensures.given c.in-Ok.ensures.begun in
    let same : c.value_mut.result.now.book.stamp ≡ c.in-Ok.stamp = ap (λ (v : LockedHeap). v.book.stamp) c.value_mut.ensures.value ∙ is.4.worked.stamp_is in
    omega (arith, same)

pub answer-reply-requires-clause-one : goal.answer-reply-requires-clause-one
answer-reply-requires-clause-one g c =
    let within : c.from-heap.result < heaps_of c.args.self.now = subst (λ h. h < heaps_of c.args.self.now) (sym c.from-heap.ensures) c.requires.heap in
    let is = begun_on c.args.self.now c.args.pass.now c.from-heap.result c.in-Ok.stamp c.in-Ok.held within c.in-Ok.ensures.given c.in-Ok.ensures.begun in
    let at = c.requires.pass.slots c.from-heap.result is.0 is.1 in
    let heap : c.value_mut.result.now.book.heap ≡ c.args.heap = ap (λ (v : LockedHeap). v.book.heap) c.value_mut.ensures.value ∙ is.4.worked.heap ∙ is.4.of.heap ∙ at.0 ∙ c.from-heap.ensures in
    let heaps : c.value_mut.result.now.book.heaps ≡ heaps_of c.args.self.now = ap (λ (v : LockedHeap). v.book.heaps) c.value_mut.ensures.value ∙ is.4.worked.heaps ∙ is.4.of.heaps ∙ at.1 in
    ap (named.heaps_of c.args.command.now) heaps ∙ c.requires.one ∙ ap (λ h. One h) (sym heap)

pub end_in-requires-clause-worked : goal.end_in-requires-clause-worked
end_in-requires-clause-worked g c =
    let held = c.in-Ok.held in
    let works = λ (a : Book) (begun : IsWorked held.value.book a c.in-Ok.stamp []).
    c.answer-reply.ensures.worked a (subst (λ (v : LockedHeap). IsWorked v.book a c.in-Ok.stamp []) (sym c.value_mut.ensures.value) begun) in
    may_end_in (IsAnswered c.value_mut.result.now.book.rule c.args.self.now.number c.in-Ok.stamp c.args.command.now (reply_bytes c.answer-reply.result)) c.args.self.now c.args.pass.now c.from-heap.result c.in-Ok.stamp held c.answer-reply.new.self c.in-Ok.ensures.begun works
    (c.answer-reply.ensures.total ∙ ap (λ (v : LockedHeap). v.total) c.value_mut.ensures.value)

pub returns-clause-called : goal.returns-clause-called
returns-clause-called g c =
    let held = c.in-Ok.held in
    let heap : ℕ = c.from-heap.result in
    let within : heap < heaps_of c.args.self.now = subst (λ h. h < heaps_of c.args.self.now) (sym c.from-heap.ensures) c.requires.heap in
    let is = begun_on c.args.self.now c.args.pass.now heap c.in-Ok.stamp held within c.in-Ok.ensures.given c.in-Ok.ensures.begun in
    let at = c.requires.pass.slots heap is.0 is.1 in
    let rule : c.value_mut.result.now.book.rule ≡ rule_of c.args.self.now.rule = ap (λ (v : LockedHeap). v.book.rule) c.value_mut.ensures.value ∙ is.4.worked.rule ∙ is.4.of.rule ∙ ap rule_of at.2 in
    let works = λ (a : Book) (begun : IsWorked held.value.book a c.in-Ok.stamp []).
    c.answer-reply.ensures.worked a (subst (λ (v : LockedHeap). IsWorked v.book a c.in-Ok.stamp []) (sym c.value_mut.ensures.value) begun) in
    let call : IsCall (IsAnswered c.value_mut.result.now.book.rule c.args.self.now.number c.in-Ok.stamp c.args.command.now (reply_bytes c.answer-reply.result)) c.args.pass.now c.end_in.new.pass (heap ∷ []) =
    called_in (IsAnswered c.value_mut.result.now.book.rule c.args.self.now.number c.in-Ok.stamp c.args.command.now (reply_bytes c.answer-reply.result)) c.args.self.now c.args.pass.now c.begin_in.new.pass c.end_in.new.pass heap c.in-Ok.stamp held c.answer-reply.new.self within c.in-Ok.ensures.given c.in-Ok.ensures.begun works c.end_in.ensures.stamp c.end_in.ensures.seen c.end_in.ensures.steps c.in-Ok.ensures.others c.in-Ok.ensures.steps c.end_in.ensures.others c.in-Ok.ensures.turns in
    inl (subst (λ r. IsCall (IsAnswered r c.args.self.now.number c.end_in.new.pass.stamp c.args.command.now (reply_bytes c.answer-reply.result)) c.args.pass.now c.end_in.new.pass (c.args.heap ∷ [])) rule
    (subst (λ n. IsCall (IsAnswered c.value_mut.result.now.book.rule c.args.self.now.number n c.args.command.now (reply_bytes c.answer-reply.result)) c.args.pass.now c.end_in.new.pass (c.args.heap ∷ [])) (sym c.end_in.ensures.stamp)
    (subst (λ h. IsCall (IsAnswered c.value_mut.result.now.book.rule c.args.self.now.number c.in-Ok.stamp c.args.command.now (reply_bytes c.answer-reply.result)) c.args.pass.now c.end_in.new.pass (h ∷ [])) c.from-heap.ensures call)))
