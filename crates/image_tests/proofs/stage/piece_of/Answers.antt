use Rattle.std.proofs.Common.{Some, ap, arith, subst, sym, unwrap_or, ◌∙◌, ◌≡◌}
use Rattle.std.specs.FinMap.{get}
use Rattle.std.specs.Prelude.{option_map}
use Rattle.zq_model.proofs.SparseEntries.{additions_by_site, found_at, found_in}
use Rattle.zq_model.specs.Bounded.{IsBoundedRow}
use Rattle.zq_model.specs.Image.{Entry, Image, Place, addition_at, no_additions}
use Rattle.zq_model.specs.Rows.{additions_from, row_of}
use Rattle.zq_model.specs.Sets.{SITES}
use Rattle.zq_shard.specs.Shard.{HeapImage, IsHeapImage}
use Rattle.image_tests.proofs.stage.piece_of.Goals as goal

-- the row of an entry that a heap has keeps the heap's bounds
bounded_there : (s : HeapImage) (q : Place) (e : Entry) → IsHeapImage s → get s.image.members q ≡ Some e → IsBoundedRow s.heaps s.heap s.image.vector (row_of (q, e))
bounded_there s q e kept got t x here =
    let wide = (kept.bounded.entries q.0 q.1 e got).0 in
    kept.bounded.additions q.0 q.1 t x
    (ap (λ r. addition_at (unwrap_or r no_additions) t) got
    ∙ sym (found_at t 0 t e (omega arith))
    ∙ found_in 0 SITES (additions_from 0 e) t x (additions_by_site 0 SITES e (omega (arith, wide))) here)

-- and those of another one that is the same heap at the same vector
bounded_in : (s p : HeapImage) (q : Place) (e : Entry) → IsHeapImage s → p.heaps ≡ s.heaps → p.heap ≡ s.heap → p.image.vector ≡ s.image.vector → get s.image.members q ≡ Some e → IsBoundedRow p.heaps p.heap p.image.vector (row_of (q, e))
bounded_in s p q e kept heaps heap vector got =
    subst (λ k. IsBoundedRow k p.heap p.image.vector (row_of (q, e))) (sym heaps)
    (subst (λ h. IsBoundedRow s.heaps h p.image.vector (row_of (q, e))) (sym heap)
    (subst (λ v. IsBoundedRow s.heaps s.heap v (row_of (q, e))) (sym vector)
    (bounded_there s q e kept got)))

pub push_row-requires-clause-full : goal.push_row-requires-clause-full
push_row-requires-clause-full c =
    let got : get c.args.heap.now.image.members (c.key_of-key.result.now, c.name_of-name.result) ≡ Some c.in_ok-copy.field-0
    = sym c.entry.ensures ∙ ap (option_map (λ entry. entry.now)) c.in-Some.is ∙ ap (λ e. Some e) (sym c.in_ok-copy.ensures) in
    (c.vector.ensures.kept.bounded.entries c.key_of-key.result.now c.name_of-name.result c.in_ok-copy.field-0 got).1

pub push_row-requires-clause-bounded : goal.push_row-requires-clause-bounded
push_row-requires-clause-bounded c =
    let got : get c.args.heap.now.image.members (c.key_of-key.result.now, c.name_of-name.result) ≡ Some c.in_ok-copy.field-0
    = sym c.entry.ensures ∙ ap (option_map (λ entry. entry.now)) c.in-Some.is ∙ ap (λ e. Some e) (sym c.in_ok-copy.ensures) in
    bounded_in c.args.heap.now c.of_vector-piece.result (c.key_of-key.result.now, c.name_of-name.result) c.in_ok-copy.field-0 c.vector.ensures.kept
    (c.of_vector-piece.ensures.heaps ∙ c.heaps.ensures.same)
    (c.of_vector-piece.ensures.heap ∙ c.heap.ensures.same)
    (ap (λ (a : Image). a.vector) c.of_vector-piece.ensures.image ∙ c.vector.ensures.same) got
