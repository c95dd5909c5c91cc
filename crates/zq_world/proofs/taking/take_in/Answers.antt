use Rattle.std.proofs.Common.{Err, Some, ap, arith, length, refl, subst, sym, ◌+◌, ◌<◌, ◌∙◌, ◌≡◌}
use Rattle.std.proofs.lemmas.Option.{same_Some, slice_get_read, slice_get_within}
use Rattle.std.specs.Prelude.{List, slice_get, slice_set}
use Rattle.zq_model.specs.Books.{Book}
use Rattle.zq_journal.specs.Books.{LAST_STAMP, book_when, state_of}
use Rattle.zq_model.specs.Image.{Image}
use Rattle.zq_model.specs.Sets.{IsIn, New, Taken, taken_of}
use Rattle.zq_model.proofs.Read.{in_place}
use Rattle.zq_semantics.specs.Run.{LAST_COUNT}
use Rattle.zq_posheap.proofs.Lists.{set_again}
use Rattle.zq_semantics.specs.Books.{AreBooksOf, greatest_stamp}
use Rattle.zq_semantics.specs.Events.{after_taken, answer_taken, judged}
use Rattle.zq_shard.specs.Shard.{IsOfHeap}
use Rattle.zq_world.proofs.Handed.{handed_not, handed_to, worn_taken}
use Rattle.zq_world.proofs.SeenBooks.{stamp_above}
use Rattle.zq_world.proofs.taking.take_in.Goals as goal
use Rattle.zq_world.proofs.taking.take_in.Goals.{After-greatest_stamp-stamp, After-index_mut}

-- the stamp is the greatest of the books
stamp_is : (c : After-greatest_stamp-stamp) → c.greatest_stamp-stamp.result ≡ greatest_stamp c.args.books.now.items
stamp_is c = c.greatest_stamp-stamp.ensures.greatest ∙ ap greatest_stamp c.deref-2.ensures.value

-- the book stands in its heap's place
stands : (c : After-index_mut) → slice_get c.args.books.now.items c.heap.result ≡ Some c.index_mut.result.now
stands c =
    let books = c.args.books.now.items in
    let inside = slice_get_within books c.args.op.now.operation.heap c.requires.placed.0 c.requires.placed.1 in
    slice_get_read books (length books) c.heap.result c.index_mut.result.now refl (omega (arith, inside, c.heap.ensures.same)) c.index_mut.ensures.value

here : (c : After-index_mut) → slice_get c.args.books.now.items c.args.op.now.operation.heap ≡ Some c.index_mut.result.now
here c = ap (slice_get c.args.books.now.items) (sym c.heap.ensures.same) ∙ stands c

-- it is the operation's
of_heap : (c : After-index_mut) → IsOfHeap (state_of c.index_mut.result.now) c.args.op.now
of_heap c =
    let same : c.requires.placed.0 ≡ c.index_mut.result.now = same_Some c.requires.placed.0 c.index_mut.result.now (sym c.requires.placed.1 ∙ here c) in
    subst (λ (b : Book). IsOfHeap (state_of b) c.args.op.now) same c.requires.placed.2

pub returns-then-stamp-eq-LAST_COUNT-clause-handed : goal.returns-then-stamp-eq-LAST_COUNT-clause-handed
returns-then-stamp-eq-LAST_COUNT-clause-handed c = λ rule K st site are world closed.
    let o = c.args.op.now.operation in
    let last = sym (stamp_is (goal.at.returns-then-stamp-eq-LAST_COUNT-clause-handed c).After-greatest_stamp-stamp) ∙ c.if-stamp-eq-LAST_COUNT.true in
    let worn = worn_taken rule K st site c.args.books.now.items are o (judged st site o) last in
    (subst (λ s. AreBooksOf rule K s site c.args.books.now.items) (sym worn.0) are, sym worn.1)

pub index_mut-requires : goal.index_mut-requires
index_mut-requires c =
    let books = c.args.books.now.items in
    let inside = slice_get_within books c.args.op.now.operation.heap c.requires.placed.0 c.requires.placed.1 in
    let long = ap length c.deref.ensures.value in
    omega (arith, inside, long, c.deref.ensures.len, c.heap.ensures.same)

pub take-requires-clause-stamp : goal.take-requires-clause-stamp
take-requires-clause-stamp c =
    let d = (goal.at.take-requires-clause-stamp c).After-index_mut in
    let books = c.args.books.now.items in
    let above = stamp_above books c.index_mut.result.now (in_place books c.heap.result c.index_mut.result.now (stands d)) in
    let is = stamp_is (goal.at.take-requires-clause-stamp c).After-greatest_stamp-stamp in
    omega (arith, above, is)

pub take-requires-clause-bounded : goal.take-requires-clause-bounded
unfolding LAST_STAMP
take-requires-clause-bounded c = omega (arith, c.greatest_stamp-stamp.ensures.bounded, c.if-stamp-eq-LAST_COUNT.false)

pub unreachable-requires : goal.unreachable-requires
unreachable-requires c =
    absurd (c.in-Err-WrongHeap.ensures.wrong_heap.0 (ap (λ e. Err e) c.in-Err-WrongHeap.field-0-is) (of_heap (goal.at.unreachable-requires c).After-index_mut))

pub returns-in-Ok-clause-handed : goal.returns-in-Ok-clause-handed
unfolding LAST_STAMP
returns-in-Ok-clause-handed c = λ rule K st site are world closed.
    let d = (goal.at.returns-in-Ok-clause-handed c).After-index_mut in
    let books = c.args.books.now.items in
    let o = c.args.op.now.operation in
    let b = c.index_mut.result.now in
    let new = c.take.new.self in
    let stamp = c.greatest_stamp-stamp.result in
    let J : Taken = taken_of b.state.vector o in
    let is = stamp_is (goal.at.returns-in-Ok-clause-handed c).After-greatest_stamp-stamp in
    let judge : judged st site o ≡ J = sym (ap (λ (a : Image). taken_of a.vector o) (are.each o.heap b (here d)).state) in
    let count = (c.look_at.ensures b (subst (λ (xs : List Book). IsIn b xs) (sym c.deref.ensures.value) (in_place books c.heap.result b (stands d)))).1 in
    let below : greatest_stamp books < LAST_COUNT = omega (arith, is, c.greatest_stamp-stamp.ensures.bounded, c.if-stamp-eq-LAST_COUNT.false) in
    let few : J ≡ New → b.count < LAST_COUNT = λ new_is.
    let away : (b.count ≡ LAST_COUNT) → ⊥ = λ last. (let fault = c.in-Ok.ensures.worn.1 (of_heap d, new_is, last) in absurd (cc)) in
    omega (arith, count, away) in
    let r = handed_to rule K st site books are o b stamp J world closed (here d) below few is judge in
    let set : slice_set books c.heap.result new ≡ slice_set books o.heap (book_when J b (stamp + 1) o) = λ i. slice_set books (c.heap.ensures.same i) (c.in-Ok.ensures.book i) in (
      subst (λ t. AreBooksOf rule K (after_taken K st site o t) site (slice_set books c.heap.result new)) (sym judge)
          (subst (λ xs. AreBooksOf rule K (after_taken K st site o J) site xs) (sym set) r.0),
      ap (λ t. Some t) c.in-Ok.ensures.judged ∙ sym r.1 ∙ sym (ap (answer_taken K st site o) judge),
    )

pub returns-in-Err-Worn-clause-handed : goal.returns-in-Err-Worn-clause-handed
unfolding LAST_STAMP
returns-in-Err-Worn-clause-handed c = λ rule K st site are world closed.
    let d = (goal.at.returns-in-Err-Worn-clause-handed c).After-index_mut in
    let books = c.args.books.now.items in
    let o = c.args.op.now.operation in
    let b = c.index_mut.result.now in
    let new = c.take.new.self in
    let why = c.in-Err-Worn.ensures.worn.0 (ap (λ e. Err e) c.in-Err-Worn.field-0-is) in
    let judge : judged st site o ≡ New = sym (ap (λ (a : Image). taken_of a.vector o) (are.each o.heap b (here d)).state) ∙ why.1 in
    let not = handed_not rule K st site books are o b (here d) why.2 in
    let set : slice_set books c.heap.result new ≡ books
    = (λ i. slice_set books (c.heap.ensures.same i) (c.in-Err-Worn.ensures.refused i)) ∙ set_again books o.heap b (here d) in (
      subst (λ t. AreBooksOf rule K (after_taken K st site o t) site (slice_set books c.heap.result new)) (sym judge)
          (subst (λ s. AreBooksOf rule K s site (slice_set books c.heap.result new)) (sym not.0) (subst (λ xs. AreBooksOf rule K st site xs) (sym set) are)),
      sym not.1 ∙ sym (ap (answer_taken K st site o) judge),
    )
