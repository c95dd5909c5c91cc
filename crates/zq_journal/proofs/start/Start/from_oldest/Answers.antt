use Rattle.std.proofs.Common.{List, [], ap, arith, false, slice_set, subst, sym, take, true, ℕ, ◌+◌, ◌++◌, ◌∙◌, ◌∷◌, ◌≡◌}
use Rattle.std.proofs.lemmas.Bool.{not-false, not-true}
use Rattle.std.proofs.lemmas.List.{take_more}
use Rattle.zq_journal.proofs.Oldest.{covers_had}
use Rattle.zq_journal.proofs.Weights.{first_of}
use Rattle.zq_journal.proofs.Wholes.{vector_more}
use Rattle.zq_journal.specs.Records.{LacksFirst, placed_in, vector_over, vector_past, whole}
use Rattle.zq_journal.specs.declared.records.Record as code
use Rattle.zq_model.specs.Operation.{Operation, has}
use Rattle.zq_model.specs.Sets.{covers}
use Rattle.zq_journal.proofs.start.Start.from_oldest.Goals as goal

pub loop-place-preserved : goal.loop-place-preserved
loop-place-preserved c =
    let items : List code.Record = c.args.tail.now.items in
    let r : code.Record = c.index.result.now in
    let first : List code.Record = take c.loop-place.place items in
    let next : take (c.loop-place.place + 1) items ≡ first ++ r ∷ [] =
    take_more items c.loop-place.place r (omega arith) ∙ ap (λ x. first ++ x ∷ []) (sym c.index.ensures) in
    record {
      seen = λ h K.
          c.set.ensures
          ∙ ap (λ s. slice_set c.loop-place.seen s c.dot-dot.result.n) (c.dot-dot.ensures.site h K c.loop-place.seen)
          ∙ ap (slice_set c.loop-place.seen _) (c.dot-dot.ensures.n h K c.loop-place.seen)
          ∙ ap (λ w. vector_past w (whole h K w r.what)) (c.loop-place.invariant.seen h K)
          ∙ sym (vector_more h K c.args.base.now first r)
          ∙ ap (vector_over h K c.args.base.now) (sym next);
      covered = λ base.
          let v : List ℕ = c.args.vector.now in
          let o : Operation = (placed_in (whole 0 0 v r.what)).operation in
          let had : has v c.dot-dot.result.site c.dot-dot.result.n ≡ true =
          ap (λ s. has v s c.dot-dot.result.n) (c.dot-dot.ensures.site 0 0 v)
          ∙ ap (has v o.site) (c.dot-dot.ensures.n 0 0 v)
          ∙ not-false _ (sym (c.is_new_to.ensures 0 0 v) ∙ c.if-is_new_to.false) in
          ap (covers v) c.set.ensures
          ∙ covers_had v c.loop-place.seen c.dot-dot.result.site c.dot-dot.result.n had (c.loop-place.invariant.covered base);
    }

pub returns-then-is_new_to-clause-lacked : goal.returns-then-is_new_to-clause-lacked
returns-then-is_new_to-clause-lacked c = λ h K.
    let items : List code.Record = c.args.tail.now.items in
    let v : List ℕ = c.args.vector.now in
    let r : code.Record = c.index.result.now in
    subst (LacksFirst h K v) (sym (first_of items c.loop-place.place r (omega arith) c.index.ensures))
    (not-true _ (sym (c.is_new_to.ensures h K v) ∙ c.if-is_new_to.true))
