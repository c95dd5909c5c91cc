use Rattle.std.proofs.Common.{arith, length, refl, subst, ◌≤◌}
use Rattle.std.proofs.lemmas.Option.{slice_get_read, slice_get_within}
use Rattle.zq_journal.specs.Books.{LAST_STAMP}
use Rattle.zq_model.specs.Sets.{IsCounters}
use Rattle.zq_model.proofs.Read.{placed_in}
use Rattle.zq_semantics.specs.Run.{LAST_COUNT}
use Rattle.zq_shard.specs.Shard.{HeapImage}
use Rattle.zq_world.proofs.SeenBooks.{seen_next}
use Rattle.zq_world.proofs.stamps.look_at.Goals as goal

pub loop-book-init : goal.loop-book-init
loop-book-init c = λ place book low at. absurd (omega (arith, low))

pub loop-book-preserved : goal.loop-book-preserved
unfolding LAST_STAMP
loop-book-preserved c =
    let books = c.args.books.now in
    let i = c.loop-book.book-index in
    let its = c.book-item.result in
    let at = slice_get_read books (length books) i its refl c.loop-book-test.true c.book-item.is in
    let same = c.shard.ensures.same in
    let counters : IsCounters its.state.vector = subst (λ (s : HeapImage). IsCounters s.image.vector) same c.vector-vector.ensures.kept.bounded.counters in
    let count = c.count-count.ensures.same in
    seen_next (λ b. IsCounters b.state.vector × (b.count ≤ LAST_COUNT)) books i its at (counters, omega (arith, count, c.count-count.ensures.bounded)) c.loop-book.invariant

pub returns : goal.returns
returns c = λ book here.
    let at = placed_in book c.args.books.now here in
    let inside = slice_get_within c.args.books.now at.0 book at.1 in
    c.loop-book.invariant at.0 book (omega (arith, inside, c.loop-book-test.false)) at.1
