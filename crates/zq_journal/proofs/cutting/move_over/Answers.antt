use Rattle.std.proofs.Common.{List, [], ap, arith, slice_set, sym, take, ◌+◌, ◌++◌, ◌∙◌, ◌∷◌, ◌≡◌}
use Rattle.std.proofs.lemmas.List.{take_more}
use Rattle.zq_journal.proofs.Wholes.{vector_more}
use Rattle.zq_journal.specs.Records.{vector_over, vector_past, whole}
use Rattle.zq_journal.specs.declared.records.Record as code
use Rattle.zq_journal.proofs.cutting.move_over.Goals as goal

pub loop-place-preserved : goal.loop-place-preserved
loop-place-preserved c = λ h K.
    let r : code.Record = c.index.result.now in
    let first : List code.Record = take c.loop-place.place c.args.tail.now.items in
    let next : take (c.loop-place.place + 1) c.args.tail.now.items ≡ first ++ r ∷ [] =
    take_more c.args.tail.now.items c.loop-place.place r (omega arith) ∙ ap (λ x. first ++ x ∷ []) (sym c.index.ensures) in
    c.set.ensures
    ∙ ap (λ s. slice_set c.loop-place.vector s c.dot-dot.result.n) (c.dot-dot.ensures.site h K c.loop-place.vector)
    ∙ ap (slice_set c.loop-place.vector _) (c.dot-dot.ensures.n h K c.loop-place.vector)
    ∙ ap (λ w. vector_past w (whole h K w r.what)) (c.loop-place.invariant h K)
    ∙ sym (vector_more h K c.args.vector.now first r)
    ∙ ap (vector_over h K c.args.vector.now) (sym next)
