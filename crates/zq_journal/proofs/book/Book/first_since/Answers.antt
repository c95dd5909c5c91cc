use Rattle.std.proofs.Common.{ap, arith, length, map, rules, subst, sym, take, true, true≢false, ℕ, ◌-◌, ◌<◌, ◌∙◌, ◌≡◌}
use Rattle.std.specs.List.{take-map}
use Rattle.std.specs.List.{All}
use Rattle.std.proofs.lemmas.List.Elements.{All-filter, All-map, All-same, All-take, All-weaker}
use Rattle.std.specs.Prelude.{not}
use Rattle.zq_dots.specs.Placed.{Placed}
use Rattle.zq_model.specs.Books.{Book, operations_of}
use Rattle.zq_journal.proofs.Counting.{all_counted, base_counted, lacking_from-left, missing_from, rest_each}
use Rattle.zq_journal.proofs.Lasts.{length_tail}
use Rattle.zq_journal.proofs.Missing.{missing_is}
use Rattle.zq_journal.specs.BookView.{book_of, records_of}
use Rattle.zq_journal.specs.Books.{base_of}
use Rattle.zq_journal.specs.Limits.{limits_of}
use Rattle.zq_journal.specs.Records.{IsRecord, missing_of, placed_at, placed_in, vector_under}
use Rattle.zq_model.specs.Operation.{has}
use Rattle.zq_model.specs.Sets.{covers}
use Rattle.zq_model.specs.Tail.{lacking, lacking_from}
use Rattle.zq_shard.specs.Shard.{HeapImage, IsOfHeap}
use Rattle.zq_journal.proofs.book.Book.first_since.Goals as goal

-- what it begins with covers the base
base_within : (c : goal.After-len-2) → covers c.args.vector.now c.self.inside.vector ≡ true
base_within c =
    let tested : c.covers.result ≡ true = search rules in
    sym c.covers.ensures.value ∙ tested

of_covered : (c : goal.After-len-2) → 0 < c.of-start.result.place → covers c.args.vector.now c.of-start.result.seen ≡ true
of_covered c = c.of-start.ensures.covered (base_within c)

pub missing-requires : goal.missing-requires
missing-requires c =
    let s : HeapImage = c.self.inside.shard in
    rest_each s c.self.inside.vector c.self.inside.tail.items (limits_of c.self.inside.limits) c.self.inside.handed c.self.inside.stamp c.self.inside.count c.self.invariant.standing
    c.heap-heap.result c.heaps-heaps.result c.of-start.result.place c.vector-last.result.now c.of-start.result.seen c.heap-heap.ensures.same c.heaps-heaps.ensures.same c.vector-last.ensures.same
    (c.of-start.ensures.seen s.heap s.heaps)

-- they are what is lacked of all records
all_missing : (c : goal.After-len-2) → c.in_ok-ops.ops.items ≡ take c.args.most (missing_of c.args.vector.now (records_of c.self.inside))
all_missing c =
    let s : HeapImage = c.self.inside.shard in
    c.in_ok-ops.ensures
    ∙ ap (take c.args.most) (missing_from s c.self.inside.vector c.self.inside.tail.items (limits_of c.self.inside.limits) c.self.inside.handed c.self.inside.stamp c.self.inside.count c.self.invariant.standing
    c.heap-heap.result c.heaps-heaps.result c.of-start.result.place c.vector-last.result.now c.of-start.result.seen c.heap-heap.ensures.same c.heaps-heaps.ensures.same c.vector-last.ensures.same
    (c.of-start.ensures.seen s.heap s.heaps) c.args.vector.now (of_covered c))

pub returns-clause-ops : goal.returns-clause-ops
returns-clause-ops c =
    let heaps : ℕ = c.self.inside.shard.heaps in
    subst (λ (b : Book). c.in_ok-ops.ops.items ≡ map (placed_at b.heaps) (take c.args.most (lacking c.args.vector.now (operations_of b.tail)))) c.self.view_is
    (all_missing c
    ∙ ap (take c.args.most) (missing_is c.self.inside.shard.heap heaps c.args.vector.now (records_of c.self.inside) c.self.invariant.standing.each)
    ∙ take-map (placed_at heaps) c.args.most (lacking c.args.vector.now (operations_of (book_of c.self.inside).tail)))

pub returns-clause-placed : goal.returns-clause-placed
returns-clause-placed c =
    let P : Placed → Type 0 = IsOfHeap (base_of c.args.self.now) in
    let here : All (λ r. P (placed_in r.what)) (records_of c.self.inside) =
    subst (λ (b : Book). All (λ r. IsOfHeap (base_of b) (placed_in r.what)) (records_of c.self.inside)) c.self.view_is
    (All-weaker (IsRecord c.self.inside.shard.heap c.self.inside.shard.heaps) (λ r. IsOfHeap (base_of (book_of c.self.inside)) (placed_in r.what))
    (λ r is. record { heap = is.op.heap; heaps = is.op.heaps; placed = is.op.placed }) (records_of c.self.inside) c.self.invariant.standing.each) in
    All-same P _ _ (all_missing c)
    (All-take P c.args.most (missing_of c.args.vector.now (records_of c.self.inside))
    (All-filter (λ p. not (has c.args.vector.now p.operation.site p.operation.n)) P (map (λ r. placed_in r.what) (records_of c.self.inside))
    (All-map P (λ r. placed_in r.what) (records_of c.self.inside) here)))

-- the vector covers the base's, which is the count over all records
base_covered : (c : goal.After-len-2) → covers c.args.vector.now (vector_under c.self.inside.shard.heap c.self.inside.shard.heaps c.vector-last.result.now c.self.inside.tail.items) ≡ true
base_covered c =
    let s : HeapImage = c.self.inside.shard in
    let tested : c.covers.result ≡ true = search rules in
    ap (covers c.args.vector.now)
    (base_counted s c.self.inside.vector c.self.inside.tail.items (limits_of c.self.inside.limits) c.self.inside.handed c.self.inside.stamp c.self.inside.count c.self.invariant.standing
    c.heap-heap.result c.heaps-heaps.result c.of-start.result.place c.vector-last.result.now c.of-start.result.seen c.heap-heap.ensures.same c.heaps-heaps.ensures.same c.vector-last.ensures.same
    (c.of-start.ensures.seen s.heap s.heaps))
    ∙ sym c.covers.ensures.value ∙ tested

pub returns-clause-newest : goal.returns-clause-newest
returns-clause-newest c =
    let s : HeapImage = c.self.inside.shard in
    let counted = all_counted s c.self.inside.vector c.self.inside.tail.items (limits_of c.self.inside.limits) c.self.inside.handed c.self.inside.stamp c.self.inside.count c.self.invariant.standing
    c.heap-heap.result c.heaps-heaps.result c.of-start.result.place c.vector-last.result.now c.of-start.result.seen c.heap-heap.ensures.same c.heaps-heaps.ensures.same c.vector-last.ensures.same
    (c.of-start.ensures.seen s.heap s.heaps) in
    let first = c.of-start.ensures.lacked s.heap s.heaps counted (base_covered c) in
    let left = lacking_from-left s c.self.inside.vector c.self.inside.tail.items (limits_of c.self.inside.limits) c.self.inside.handed c.self.inside.stamp c.self.inside.count c.self.invariant.standing
    c.heap-heap.result c.heaps-heaps.result c.of-start.result.place c.vector-last.result.now c.of-start.result.seen c.heap-heap.ensures.same c.heaps-heaps.ensures.same c.vector-last.ensures.same
    (c.of-start.ensures.seen s.heap s.heaps) c.args.vector.now (of_covered c) first in
    ap (λ n. n - c.of-start.result.place) (c.len-2.ensures ∙ c.self.inside.tail.ok.0)
    ∙ sym left
    ∙ ap (λ (b : Book). lacking_from c.args.vector.now (operations_of b.tail)) c.self.view_is

pub returns-clause-within : goal.returns-clause-within
returns-clause-within c =
    let long : length c.self.inside.tail.items ≡ length c.args.self.now.tail =
    sym (length_tail c.self.inside.shard c.self.inside.vector c.self.inside.tail.items) ∙ ap (λ (b : Book). length b.tail) c.self.view_is in
    omega (arith, long, c.len-2.ensures, c.self.inside.tail.ok.0)

pub returns-then-not-covers-clause-within : goal.returns-then-not-covers-clause-within
returns-then-not-covers-clause-within c =
    let long : length c.self.inside.tail.items ≡ length c.args.self.now.tail =
    sym (length_tail c.self.inside.shard c.self.inside.vector c.self.inside.tail.items) ∙ ap (λ (b : Book). length b.tail) c.self.view_is in
    omega (arith, long, c.len.ensures, c.self.inside.tail.ok.0)

pub returns-clause-all : goal.returns-clause-all
returns-clause-all c = λ old. absurd (true≢false (sym old))

pub returns-then-not-covers-clause-all : goal.returns-then-not-covers-clause-all
returns-then-not-covers-clause-all c = λ _.
    c.len.ensures
    ∙ c.self.inside.tail.ok.0
    ∙ sym (length_tail c.self.inside.shard c.self.inside.vector c.self.inside.tail.items)
    ∙ ap (λ (b : Book). length b.tail) c.self.view_is
