use Rattle.std.proofs.Common.{List, ap, arith, length, map, sym, true, ℕ, ◌∙◌, ◌≡◌, ◌≤◌}
use Rattle.std.proofs.lemmas.List.{length-map, take_all}
use Rattle.zq_dots.specs.Placed.{Placed}
use Rattle.zq_journal.proofs.Missing.{length-lacking, operations-placed}
use Rattle.zq_journal.proofs.Sinces.{if_ops}
use Rattle.zq_journal.specs.Books.{IsPeer}
use Rattle.zq_journal.specs.Records.{placed_at}
use Rattle.zq_model.specs.Books.{Book, Record, operation_of, operations_of}
use Rattle.zq_model.specs.Image.{image_of, join}
use Rattle.zq_model.specs.Operation.{Operation}
use Rattle.zq_model.specs.Sets.{covers, vector_of}
use Rattle.zq_model.specs.Tail.{AreNew, image_after_all, lacking}
use Rattle.zq_journal.proofs.book.Book.since.Goals as goal
use Rattle.zq_journal.proofs.book.Book.since.Goals.{In_ok-first}

-- there are no more of them than records
all_given : (c : In_ok-first) → length (lacking c.args.vector.now (operations_of c.args.self.now.tail)) ≤ c.tail_len.result
all_given c =
    let b : Book = c.args.self.now in
    let lacked = length-lacking c.args.vector.now (operations_of b.tail) in
    let long : length (operations_of b.tail) ≡ length b.tail = length-map b.tail (λ (r : Record). operation_of r.change) in
    omega (arith, lacked, long, c.tail_len.ensures.same)

abbrev AreGiven : In_ok-first → List Placed → Type 0
AreGiven c ops = ops ≡ map (placed_at c.args.self.now.heaps) (lacking c.args.vector.now (operations_of c.args.self.now.tail))

pub returns-clause-ops : goal.returns-clause-ops
returns-clause-ops c =
    let b : Book = c.args.self.now in
    if_ops c.in_ok-first.first.since (covers c.args.vector.now b.base.vector) _ (AreGiven c) c.in_ok-first.ensures.too_old
    (λ _ ops are. are ∙ ap (map (placed_at b.heaps)) (take_all _ (lacking c.args.vector.now (operations_of b.tail)) (all_given c))) c.in_ok-first.ensures.ops

-- they are what the peer of this vector lacks
are_lacking : (c : In_ok-first) (ops : List Placed) (v : List ℕ) → AreGiven c ops → c.args.vector.now ≡ v → map (λ p. p.operation) ops ≡ lacking v (operations_of c.args.self.now.tail)
are_lacking c ops v are e =
    ap (map (λ (p : Placed). p.operation)) are
    ∙ operations-placed c.args.self.now.heaps (lacking c.args.vector.now (operations_of c.args.self.now.tail))
    ∙ ap (λ w. lacking w (operations_of c.args.self.now.tail)) e

pub returns-clause-new : goal.returns-clause-new
returns-clause-new c =
    let b : Book = c.args.self.now in
    let v : List ℕ = c.args.vector.now in
    let Q : List Placed → Type 0 = λ ops. (S T : List Operation) → IsPeer b S T v → AreNew (map (λ p. p.operation) ops) (image_of T b.heap) in
    if_ops c.in_ok-first.first.since (covers v b.base.vector) (AreGiven c) Q c.in_ok-first.ensures.too_old
    (λ covered ops are. λ S T is.
    let base : covers (vector_of T b.heap) b.base.vector ≡ true = ap (λ w. covers w b.base.vector) (sym is.vector) ∙ covered in
    rw (are_lacking c ops (vector_of T b.heap) are is.vector) (c.telling.ensures.new b.heaps b S T c.tail_len.ensures.book is.world is.closed is.theirs is.base base))
    (returns-clause-ops c)

pub returns-clause-merges : goal.returns-clause-merges
returns-clause-merges c =
    let b : Book = c.args.self.now in
    let v : List ℕ = c.args.vector.now in
    let Q : List Placed → Type 0 = λ ops. (S T : List Operation) → IsPeer b S T v →
    image_after_all (map (λ p. p.operation) ops) (image_of T b.heap) ≡ join (image_of T b.heap) b.state in
    if_ops c.in_ok-first.first.since (covers v b.base.vector) (AreGiven c) Q c.in_ok-first.ensures.too_old
    (λ covered ops are. λ S T is.
    let base : covers (vector_of T b.heap) b.base.vector ≡ true = ap (λ w. covers w b.base.vector) (sym is.vector) ∙ covered in
    rw (are_lacking c ops (vector_of T b.heap) are is.vector) (c.telling.ensures.merges b.heaps b S T c.tail_len.ensures.book is.world is.closed is.theirs is.base base))
    (returns-clause-ops c)
