use Rattle.std.proofs.Common.{List, Some, ap, arith, length, subst, sym, ℕ, ◌-◌, ◌<◌, ◌∙◌, ◌≡◌}
use Rattle.std.specs.Prelude.{slice_get}
use Rattle.zq_dots.specs.Placed.{Placed}
use Rattle.zq_model.specs.Books.{Book, operations_of}
use Rattle.zq_journal.specs.Limits.{limits_of}
use Rattle.zq_journal.proofs.Lasts.{last_lent, length_tail, newest_asked, newest_at, newest_full, newest_recordable, newest_within, vector_before}
use Rattle.zq_journal.specs.Records.{Change, IsRecordable, Record, placed_at, placed_in, whole}
use Rattle.zq_journal.specs.declared.records.Record as code
use Rattle.zq_shard.specs.Shard.{HeapImage}
use Rattle.zq_journal.proofs.book.Book.newest.Goals as goal

pub op-requires : goal.op-requires
op-requires c =
    let s : HeapImage = c.self.inside.shard in
    let base : List ℕ = c.self.inside.vector in
    let tail : List code.Record = c.self.inside.tail.items in
    let r : code.Record = c.in-Some.record.now in
    let at : slice_get tail (length tail - 1) ≡ Some r = last_lent tail c.self.inside.tail.len c.back.result c.in-Some.record c.self.inside.tail.ok.0 c.in-Some.is c.back.ensures.variant c.back.ensures.lookup in
    let before : List ℕ = vector_before s base tail (limits_of c.self.inside.limits) c.self.inside.handed c.self.inside.stamp c.self.inside.count c.self.invariant.standing r at in
    let full : Record = newest_full s base tail (limits_of c.self.inside.limits) c.self.inside.handed c.self.inside.stamp c.self.inside.count c.self.invariant.standing r at in
    let asked : whole c.heap.result c.heaps.result c.set.new.self r.what ≡ full.what =
    newest_asked s base tail (limits_of c.self.inside.limits) c.self.inside.handed c.self.inside.stamp c.self.inside.count c.self.invariant.standing r at c.heap.result c.heaps.result c.dot-dot.result.site c.dot-dot.result.n c.vector.result.now c.set.new.self
    c.heap.ensures.same c.heaps.ensures.same c.vector.ensures.same (c.dot-dot.ensures.site s.heap s.heaps before) (c.dot-dot.ensures.n s.heap s.heaps before) c.set.ensures in
    subst (λ (q : Change). IsRecordable c.heap.result c.heaps.result (placed_in q)) (sym asked)
    (subst (λ h. IsRecordable h c.heaps.result (placed_in full.what)) (sym c.heap.ensures.same)
    (subst (λ K. IsRecordable s.heap K (placed_in full.what)) (sym c.heaps.ensures.same) (newest_recordable s base tail (limits_of c.self.inside.limits) c.self.inside.handed c.self.inside.stamp c.self.inside.count c.self.invariant.standing r at)))

pub returns-in_err-op-clause-asked : goal.returns-in_err-op-clause-asked
returns-in_err-op-clause-asked c = λ err.
    let tail : List code.Record = c.self.inside.tail.items in
    let at : slice_get tail (length tail - 1) ≡ Some c.in-Some.record.now = last_lent tail c.self.inside.tail.len c.back.result c.in-Some.record c.self.inside.tail.ok.0 c.in-Some.is c.back.ensures.variant c.back.ensures.lookup in
    let within : length tail - 1 < length tail =
    newest_within c.self.inside.shard c.self.inside.vector tail (limits_of c.self.inside.limits) c.self.inside.handed c.self.inside.stamp c.self.inside.count c.self.invariant.standing c.in-Some.record.now at in
    let long : length c.args.self.now.tail ≡ length tail = sym (ap (λ (b : Book). length b.tail) c.self.view_is) ∙ length_tail c.self.inside.shard c.self.inside.vector tail in
    omega (arith, within, long)

pub returns-clause-newest : goal.returns-clause-newest
returns-clause-newest c =
    let s : HeapImage = c.self.inside.shard in
    let base : List ℕ = c.self.inside.vector in
    let tail : List code.Record = c.self.inside.tail.items in
    let r : code.Record = c.in-Some.record.now in
    let at : slice_get tail (length tail - 1) ≡ Some r = last_lent tail c.self.inside.tail.len c.back.result c.in-Some.record c.self.inside.tail.ok.0 c.in-Some.is c.back.ensures.variant c.back.ensures.lookup in
    let before : List ℕ = vector_before s base tail (limits_of c.self.inside.limits) c.self.inside.handed c.self.inside.stamp c.self.inside.count c.self.invariant.standing r at in
    let full : Record = newest_full s base tail (limits_of c.self.inside.limits) c.self.inside.handed c.self.inside.stamp c.self.inside.count c.self.invariant.standing r at in
    let asked : whole c.heap.result c.heaps.result c.set.new.self r.what ≡ full.what =
    newest_asked s base tail (limits_of c.self.inside.limits) c.self.inside.handed c.self.inside.stamp c.self.inside.count c.self.invariant.standing r at c.heap.result c.heaps.result c.dot-dot.result.site c.dot-dot.result.n c.vector.result.now c.set.new.self
    c.heap.ensures.same c.heaps.ensures.same c.vector.ensures.same (c.dot-dot.ensures.site s.heap s.heaps before) (c.dot-dot.ensures.n s.heap s.heaps before) c.set.ensures in
    subst (λ (b : Book). slice_get (operations_of b.tail) (length b.tail - 1) ≡ Some c.in_ok-op.op.operation) c.self.view_is
    (newest_at s base tail (limits_of c.self.inside.limits) c.self.inside.handed c.self.inside.stamp c.self.inside.count c.self.invariant.standing r at ∙ ap (λ (p : Placed). Some p.operation) (sym (c.in_ok-op.ensures ∙ ap placed_in asked)))

pub returns-clause-placed : goal.returns-clause-placed
returns-clause-placed c =
    let s : HeapImage = c.self.inside.shard in
    let base : List ℕ = c.self.inside.vector in
    let tail : List code.Record = c.self.inside.tail.items in
    let r : code.Record = c.in-Some.record.now in
    let at : slice_get tail (length tail - 1) ≡ Some r = last_lent tail c.self.inside.tail.len c.back.result c.in-Some.record c.self.inside.tail.ok.0 c.in-Some.is c.back.ensures.variant c.back.ensures.lookup in
    let before : List ℕ = vector_before s base tail (limits_of c.self.inside.limits) c.self.inside.handed c.self.inside.stamp c.self.inside.count c.self.invariant.standing r at in
    let full : Record = newest_full s base tail (limits_of c.self.inside.limits) c.self.inside.handed c.self.inside.stamp c.self.inside.count c.self.invariant.standing r at in
    let asked : whole c.heap.result c.heaps.result c.set.new.self r.what ≡ full.what =
    newest_asked s base tail (limits_of c.self.inside.limits) c.self.inside.handed c.self.inside.stamp c.self.inside.count c.self.invariant.standing r at c.heap.result c.heaps.result c.dot-dot.result.site c.dot-dot.result.n c.vector.result.now c.set.new.self
    c.heap.ensures.same c.heaps.ensures.same c.vector.ensures.same (c.dot-dot.ensures.site s.heap s.heaps before) (c.dot-dot.ensures.n s.heap s.heaps before) c.set.ensures in
    let own : IsRecordable s.heap s.heaps (placed_in full.what) = newest_recordable s base tail (limits_of c.self.inside.limits) c.self.inside.handed c.self.inside.stamp c.self.inside.count c.self.invariant.standing r at in
    let heaps : c.in_ok-op.op.heaps ≡ c.args.self.now.heaps = ap (λ (p : Placed). p.heaps) (c.in_ok-op.ensures ∙ ap placed_in asked) ∙ own.heaps ∙ ap (λ (b : Book). b.heaps) c.self.view_is in
    ap (λ K. placed_at K c.in_ok-op.op.operation) heaps
