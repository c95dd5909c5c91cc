use Rattle.std.proofs.Common.{Err, Some, ap, arith, length, refl, subst, sym, ◌+◌, ◌<◌, ◌∙◌, ◌≡◌}
use Rattle.std.proofs.lemmas.Option.{same_Some, slice_get_read, slice_get_within}
use Rattle.std.specs.Prelude.{List, slice_get, slice_set}
use Rattle.zq_model.specs.Books.{Book, merged}
use Rattle.zq_journal.specs.Books.{LAST_STAMP, state_of}
use Rattle.zq_model.specs.Sets.{IsIn}
use Rattle.zq_model.proofs.Read.{in_place}
use Rattle.zq_semantics.specs.Run.{LAST_COUNT}
use Rattle.zq_posheap.proofs.Lists.{set_again}
use Rattle.zq_semantics.specs.Books.{AreBooksOf, greatest_stamp}
use Rattle.zq_shard.specs.Shard.{HeapImage, IsSameHeap}
use Rattle.zq_world.proofs.Handed.{blocked_count, blocked_stamp}
use Rattle.zq_world.proofs.Merged.{merged_into, merged_not}
use Rattle.zq_world.proofs.SeenBooks.{stamp_above}
use Rattle.zq_world.specs.Steps.{merged_state}
use Rattle.zq_world.proofs.merging.merge_in.Goals as goal
use Rattle.zq_world.proofs.merging.merge_in.Goals.{After-greatest_stamp-stamp, After-index_mut}

-- the stamp is the greatest of the books
stamp_is : (c : After-greatest_stamp-stamp) → c.greatest_stamp-stamp.result ≡ greatest_stamp c.args.books.now.items
stamp_is c = c.greatest_stamp-stamp.ensures.greatest ∙ ap greatest_stamp c.deref-2.ensures.value

-- the book stands in its heap's place
stands : (c : After-index_mut) → slice_get c.args.books.now.items c.heap.result ≡ Some c.index_mut.result.now
stands c =
    let books = c.args.books.now.items in
    let inside = slice_get_within books c.args.shard.now.heap c.requires.placed.0 c.requires.placed.1 in
    slice_get_read books (length books) c.heap.result c.index_mut.result.now refl (omega (arith, inside, c.heap.ensures.same)) c.index_mut.ensures.value

here : (c : After-index_mut) → slice_get c.args.books.now.items c.args.shard.now.heap ≡ Some c.index_mut.result.now
here c = ap (slice_get c.args.books.now.items) (sym c.heap.ensures.same) ∙ stands c

-- it is of the image's heap and rule
of_heap : (c : After-index_mut) → IsSameHeap (state_of c.index_mut.result.now) c.args.shard.now × (c.index_mut.result.now.rule ≡ c.args.shard.now.rule)
of_heap c =
    let same : c.requires.placed.0 ≡ c.index_mut.result.now = same_Some c.requires.placed.0 c.index_mut.result.now (sym c.requires.placed.1 ∙ here c) in
    subst (λ (b : Book). IsSameHeap (state_of b) c.args.shard.now × (b.rule ≡ c.args.shard.now.rule)) same (c.requires.placed.2, c.requires.placed.3)

pub returns-then-stamp-eq-LAST_COUNT-clause-merged : goal.returns-then-stamp-eq-LAST_COUNT-clause-merged
returns-then-stamp-eq-LAST_COUNT-clause-merged c = λ rule K st site T are world closed shut image.
    let books = c.args.books.now.items in
    let heap = c.args.shard.now.heap in
    let last = sym (stamp_is (goal.at.returns-then-stamp-eq-LAST_COUNT-clause-merged c).After-greatest_stamp-stamp) ∙ c.if-stamp-eq-LAST_COUNT.true in
    merged_not rule K st site heap T books are (blocked_stamp rule K st site books are last heap)

pub index_mut-requires : goal.index_mut-requires
index_mut-requires c =
    let books = c.args.books.now.items in
    let inside = slice_get_within books c.args.shard.now.heap c.requires.placed.0 c.requires.placed.1 in
    let long = ap length c.deref.ensures.value in
    omega (arith, inside, long, c.deref.ensures.len, c.heap.ensures.same)

pub merge-requires-clause-stamp : goal.merge-requires-clause-stamp
merge-requires-clause-stamp c =
    let d = (goal.at.merge-requires-clause-stamp c).After-index_mut in
    let books = c.args.books.now.items in
    let above = stamp_above books c.index_mut.result.now (in_place books c.heap.result c.index_mut.result.now (stands d)) in
    let is = stamp_is (goal.at.merge-requires-clause-stamp c).After-greatest_stamp-stamp in
    omega (arith, above, is)

pub merge-requires-clause-bounded : goal.merge-requires-clause-bounded
unfolding LAST_STAMP
merge-requires-clause-bounded c = omega (arith, c.greatest_stamp-stamp.ensures.bounded, c.if-stamp-eq-LAST_COUNT.false)

pub unreachable-requires : goal.unreachable-requires
unreachable-requires c =
    absurd (c.in-Err-WrongHeap.ensures.wrong_heap.0 (ap (λ e. Err e) c.in-Err-WrongHeap.field-0-is) (of_heap (goal.at.unreachable-requires c).After-index_mut).0)

pub unreachable-requires-in-Err-WrongRule : goal.unreachable-requires-in-Err-WrongRule
unreachable-requires-in-Err-WrongRule c =
    absurd ((c.in-Err-WrongRule.ensures.wrong_rule.0 (ap (λ e. Err e) c.in-Err-WrongRule.field-0-is)).1 (of_heap (goal.at.unreachable-requires-in-Err-WrongRule c).After-index_mut).1)

pub returns-in-Ok-clause-merged : goal.returns-in-Ok-clause-merged
unfolding LAST_STAMP
returns-in-Ok-clause-merged c = λ rule K st site T are world closed shut image.
    let d = (goal.at.returns-in-Ok-clause-merged c).After-index_mut in
    let books = c.args.books.now.items in
    let heap = c.args.shard.now.heap in
    let b = c.index_mut.result.now in
    let stamp = c.greatest_stamp-stamp.result in
    let is = stamp_is (goal.at.returns-in-Ok-clause-merged c).After-greatest_stamp-stamp in
    let count = (c.look_at.ensures b (subst (λ (xs : List Book). IsIn b xs) (sym c.deref.ensures.value) (in_place books c.heap.result b (stands d)))).1 in
    let below : greatest_stamp books < LAST_COUNT = omega (arith, is, c.greatest_stamp-stamp.ensures.bounded, c.if-stamp-eq-LAST_COUNT.false) in
    let away : (b.count ≡ LAST_COUNT) → ⊥ = λ last. (let fault = c.in-Ok.ensures.worn.1 ((of_heap d).0, (of_heap d).1, last) in absurd (cc)) in
    let few : b.count < LAST_COUNT = omega (arith, count, away) in
    let set : slice_set books c.heap.result c.merge.new.self ≡ slice_set books heap (merged b (stamp + 1) c.args.shard.now.image) = λ i. slice_set books (c.heap.ensures.same i) (c.in-Ok.ensures.merged i) in
    subst (λ xs. AreBooksOf rule K (merged_state K st site heap T) site xs) (sym set)
    (merged_into rule K st site heap T books are b stamp c.args.shard.now.image (here d) world closed shut below few is (ap (λ (s : HeapImage). s.image) image))

pub returns-in-Err-Worn-clause-merged : goal.returns-in-Err-Worn-clause-merged
unfolding LAST_STAMP
returns-in-Err-Worn-clause-merged c = λ rule K st site T are world closed shut image.
    let d = (goal.at.returns-in-Err-Worn-clause-merged c).After-index_mut in
    let books = c.args.books.now.items in
    let heap = c.args.shard.now.heap in
    let b = c.index_mut.result.now in
    let why = c.in-Err-Worn.ensures.worn.0 (ap (λ e. Err e) c.in-Err-Worn.field-0-is) in
    let set : slice_set books c.heap.result c.merge.new.self ≡ books
    = (λ i. slice_set books (c.heap.ensures.same i) (c.in-Err-Worn.ensures.refused i)) ∙ set_again books heap b (here d) in
    subst (λ xs. AreBooksOf rule K (merged_state K st site heap T) site xs) (sym set)
    (merged_not rule K st site heap T books are (blocked_count rule K st site books are heap b (here d) why.2))
