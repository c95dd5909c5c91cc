-- What is read of a log keeps the sets behind the stages.

use Rattle.std.proofs.Common.{List, None, Option, Some, [], ap, arith, false, get_or, inl, inr, map, refl, subst, sym, true, ℕ, ◌++◌, ◌<◌, ◌∙◌, ◌∷◌, ◌≡◌, ◌≤◌}
use Rattle.std.proofs.lemmas.Bool.Decides.{nat_tests}
use Rattle.std.proofs.lemmas.Option.{same_Some, slice_get_within}
use Rattle.std.specs.FinMap.{empty, get, get-empty, len-empty, len-entries}
use Rattle.std.specs.Prelude.{if◌then◌else◌, nat_lt, slice_get, slice_index, slice_set, ◌==◌, ◌≢◌, ◌⊎◌}
use Rattle.zq_dots.specs.Placed.{Placed}
use Rattle.zq_links.specs.declared.piece.Piece.{Piece}
use Rattle.zq_model.proofs.Dots.{counter_positive, dots_below, last_above}
use Rattle.zq_model.proofs.Taken.{covers_at}
use Rattle.zq_model.proofs.Worlds.{vector_is, world_part}
use Rattle.zq_fields.specs.Vectors.{no_counters}
use Rattle.zq_model.proofs.Sites.{by_site-at, by_site-past}
use Rattle.zq_model.specs.Image.{Entry, Image, Place, empty_image, place_cmp}
use Rattle.zq_model.specs.Operation.{Operation}
use Rattle.zq_model.specs.Rows.{row_of, rows_of}
use Rattle.zq_model.specs.Sets.{IsClosed, IsIn, IsWorld, SITES, covers, last, vector_of}
use Rattle.zq_posheap.proofs.Lists.{slice_get-set_other, slice_get-set_same}
use Rattle.zq_recovery.specs.Behind.{AreBehind, Behind, IsBehind, Sets, begun_of, changed, nothing, with_op, with_ops, with_piece}
use Rattle.zq_recovery.specs.Laws as laws
use Rattle.zq_recovery.specs.Laws.{AreOfWorld, Ends, KeepsPieces, KeepsRounds, LosesNone, NeedsNone}
use Rattle.zq_recovery.specs.Opening.{empty_stage}
use Rattle.zq_recovery.specs.Step.{Begins, GoesOn, Takes, TakesAll, TakesOne}
use Rattle.zq_shard.proofs.AtKeys.{nil_from_length}
use Rattle.zq_shard.specs.Shard.{HeapImage}
use Rattle.zq_stage.proofs.Stages as stages
use Rattle.zq_stage.proofs.Streams.{stream}
use Rattle.zq_stage.specs.Piece.{Staged}
use Rattle.zq_stage.specs.Staged.{IsPieceOf, IsStaged}
use Rattle.zq_stage.specs.Stream.{Came, Took}

-- ---- one stage

within_more : (W S : List Operation) (o : Operation) → IsIn o W →
    ((p : Operation) → IsIn p S → IsIn p W) → (p : Operation) → IsIn p (o ∷ S) → IsIn p W
within_more W S o here there p (inl e) = subst (λ x. IsIn x W) e here
within_more W S o here there p (inr i) = there p i

world_of : (K : ℕ) (W : List Operation) (s : HeapImage) → s.heaps ≡ K → IsWorld K W →
    IsWorld s.heaps W
world_of K W s heaps world = subst (λ k. IsWorld k W) (sym heaps) world

-- an operation of its heap
op_behind : (K : ℕ) (W : List Operation) (h : ℕ) (b : Behind) (p : Placed) (old new : Staged) →
    IsWorld K W → IsIn p.operation W → p.operation.heap ≡ h → IsBehind K W h b old →
    Takes p old new → IsBehind K W h (record b { set = p.operation ∷ b.set }) new
op_behind K W h b p old new world here heap is takes =
    let o = p.operation in
    let in_heap : o.heap ≡ old.held.heap = heap ∙ sym is.heap in
    let staged = stream W b.begun (Took o ∷ []) b.rows b.set old.held
    (world_of K W old.held is.heaps world) is.within is.staged ((here, in_heap, takes.late), tt) in
    subst (IsBehind K W h (record b { set = o ∷ b.set })) (sym takes.stage) (record {
      heap = is.heap;
      heaps = is.heaps;
      within = within_more W b.set o here is.within;
      staged = staged;
    })

-- the first piece of a stream
first_behind : (K : ℕ) (W T : List Operation) (h : ℕ) (b : Behind) (p : Piece)
    (old new : Staged) → ((o : Operation) → IsIn o T → IsIn o W) → IsPieceOf T p.part →
    p.part.heap ≡ h → IsBehind K W h b old → Begins p old new →
    IsBehind K W h (begun_of T p) new
first_behind K W T h b p old new within piece heap is begins =
    subst (IsBehind K W h (begun_of T p))
    (sym begins.stage) (record {
      heap = heap;
      heaps = sym begins.heap.heaps ∙ is.heaps;
      within = within;
      staged = stages.begins T p.part piece;
    })

-- a further one
more_behind : (K : ℕ) (W T : List Operation) (h : ℕ) (b : Behind) (p : Piece)
    (old new : Staged) → IsWorld K W → ((o : Operation) → IsIn o T → IsIn o W) →
    IsPieceOf T p.part → IsBehind K W h b old → GoesOn p old new →
    IsBehind K W h (record b { rows = rows_of p.part.image ++ b.rows }) new
more_behind K W T h b p old new world within piece is goes =
    let staged = stream W b.begun (Came T p.part ∷ []) b.rows b.set old.held
    (world_of K W old.held is.heaps world) is.within is.staged
    ((within, piece, goes.next.heap, goes.next.vector), tt) in
    subst (IsBehind K W h (record b { rows = rows_of p.part.image ++ b.rows })) (sym goes.stage)
    (record { heap = is.heap; heaps = is.heaps; within = is.within; staged = staged })

-- ---- all stages

-- the stage at a place is another, behind which another set stands
placed : (K : ℕ) (W : List Operation) (sets : Sets) (old : List Staged) (k : ℕ)
    (before after : Staged) (b : Behind) → slice_get old k ≡ Some before →
    IsBehind K W k b after → AreBehind K W sets old →
    AreBehind K W (changed k b sets) (slice_set old k after)
placed K W sets old k before after b there behind are h t is =
    elim (h == k) as (λ c. (h == k) ≡ c → IsBehind K W h (if c then b else sets h) t) [
      | true ↦ λ test.
          (let same : h ≡ k = grind (arith, nat_tests) in
          let read : slice_get (slice_set old k after) h ≡ Some after =
          ap (slice_get (slice_set old k after)) same
          ∙ slice_get-set_same old k after (slice_get_within old k before there) in
          let its : after ≡ t = same_Some after t (sym read ∙ is) in
          subst (λ x. IsBehind K W x b t) (sym same) (subst (IsBehind K W k b) its behind))
      | false ↦ λ test.
          (let other : h ≢ k = grind (arith, nat_tests) in
          are h t (sym (slice_get-set_other old k h after other) ∙ is))
    ] refl

one_behind : (K : ℕ) (W : List Operation) (sets : Sets) (p : Placed) (old new : List Staged) →
    IsWorld K W → IsIn p.operation W → AreBehind K W sets old → TakesOne p old new →
    AreBehind K W (with_op p.operation sets) new
one_behind K W sets p old new world here are takes =
    let h = p.operation.heap in
    let b : Behind = sets h in
    let is = are h takes.before takes.there in
    subst (AreBehind K W (with_op p.operation sets)) (sym takes.stages)
    (placed K W sets old h takes.before takes.after (record b { set = p.operation ∷ b.set })
    takes.there
    (op_behind K W h b p takes.before takes.after world here refl is takes.takes) are)

all_behind : (K : ℕ) (W : List Operation) (sets : Sets) (ops : List Placed)
    (old new : List Staged) → IsWorld K W → AreOfWorld W ops → AreBehind K W sets old →
    TakesAll ops old new → AreBehind K W (with_ops ops sets) new
all_behind K W sets [] old new world of are takes = subst (AreBehind K W sets) (sym takes) are
all_behind K W sets (o ∷ ops) old new world of are takes =
    all_behind K W (with_op o.operation sets) ops takes.0 new world of.1
    (one_behind K W sets o old takes.0 world of.0 are takes.1) takes.2

pub rounds : KeepsRounds
rounds K W sets [] old new world of are takes = subst (AreBehind K W sets) (sym takes) are
rounds K W sets (ops ∷ batches) old new world of are takes =
    rounds K W (with_ops ops sets) batches takes.0 new world of.1
    (all_behind K W sets ops old takes.0 world of.0 are takes.1) takes.2

piece_behind : (K : ℕ) (W T : List Operation) (h : ℕ) (b : Behind) (p : Piece)
    (old new : Staged) → IsWorld K W → ((o : Operation) → IsIn o T → IsIn o W) →
    IsPieceOf T p.part → p.part.heap ≡ h → IsBehind K W h b old →
    Begins p old new ⊎ GoesOn p old new →
    IsBehind K W h (
    if p.number == 0 then begun_of T p else
    record b { rows = rows_of p.part.image ++ b.rows }
    ) new
piece_behind K W T h b p old new world within piece heap is (inl begins) =
    let first = begins.first in
    let test : (p.number == 0) ≡ true = grind (arith, nat_tests) in
    rw test (first_behind K W T h b p old new within piece heap is begins)
piece_behind K W T h b p old new world within piece heap is (inr goes) =
    let later = goes.later in
    let test : (p.number == 0) ≡ false = grind (arith, nat_tests) in
    rw test (more_behind K W T h b p old new world within piece is goes)

pub pieces : KeepsPieces
pieces K W T sets p old new world within piece are comes =
    let h = p.part.heap in
    let b : Behind = sets h in
    let is = are h comes.before comes.there in
    subst (AreBehind K W (with_piece T p sets)) (sym comes.stages)
    (placed K W sets old h comes.before comes.after (
    if p.number == 0 then begun_of T p else
    record b { rows = rows_of p.part.image ++ b.rows }
    ) comes.there
    (piece_behind K W T h b p comes.before comes.after world within piece refl is comes.comes) are)

-- ---- what a piece keeps

-- a closed set whose vector covers another's has all operations of the heap that the other has
none_lost : (K : ℕ) (W S T : List Operation) (h : ℕ) (u v : List ℕ) → IsWorld K W →
    ((o : Operation) → IsIn o S → IsIn o W) → ((o : Operation) → IsIn o T → IsIn o W) →
    IsClosed T → u ≡ vector_of S h → v ≡ vector_of T h → covers v u ≡ true →
    (o : Operation) → IsIn o S → o.heap ≡ h → IsIn o T
none_lost K W S T h u v world in_s in_t closed is_u is_v covered o here heap =
    let ws = world_part K S W in_s world in
    let wt = world_part K T W in_t world in
    let below = covers_at v u o.site covered (ws.each o here).site in
    let us : get_or u o.site 0 ≡ last S h o.site = ap (λ x. get_or x o.site 0) is_u
    ∙ (vector_is K S h ws).counter o.site in
    let vs : get_or v o.site 0 ≡ last T h o.site = ap (λ x. get_or x o.site 0) is_v
    ∙ (vector_is K T h wt).counter o.site in
    let top = last_above S h o.site o here heap refl in
    let within : o.n ≤ last T h o.site = omega (arith, below, us, vs, top) in
    let d = dots_below K T h o.site o.n wt closed (counter_positive K S o ws here) within in
    let same : o ≡ d.0 = world.one o d.0 (in_s o here) (in_t d.0 d.1) (heap ∙ sym d.2) (sym d.3)
    (sym d.4) in
    subst (λ x. IsIn x T) (sym same) d.1

kept_by : (K : ℕ) (W T : List Operation) (b : Behind) (p : Piece) (old new : Staged) →
    IsWorld K W → ((o : Operation) → IsIn o T → IsIn o W) → IsPieceOf T p.part →
    IsBehind K W p.part.heap b old → Begins p old new ⊎ GoesOn p old new → (o : Operation) →
    IsIn o b.set → o.heap ≡ p.part.heap →
    IsIn o (
    if p.number == 0 then begun_of T p else record b { rows = rows_of p.part.image ++ b.rows }
    ).set
kept_by K W T b p old new world within piece is (inl begins) o here heap =
    let first = begins.first in
    let test : (p.number == 0) ≡ true = grind (arith, nat_tests) in
    rw test (none_lost K W b.set T p.part.heap old.held.image.vector p.part.image.vector world
    is.within within piece.closed (is.staged.vector ∙ ap (vector_of b.set) is.heap) piece.vector
    begins.covers_old o here heap)
kept_by K W T b p old new world within piece is (inr goes) o here heap =
    let later = goes.later in
    let test : (p.number == 0) ≡ false = grind (arith, nat_tests) in rw test here

pub loses_none : LosesNone
loses_none K W T sets p old new world within piece are comes o here heap =
    let h = p.part.heap in
    let test : (h == h) ≡ true = grind (arith, nat_tests) in
    rw test (kept_by K W T (sets h) p comes.before comes.after world within piece
    (are h comes.before comes.there) comes.comes o here heap)

-- ---- the beginning

no_rows : rows_of empty_image ≡ []
no_rows = ap (map row_of)
    (nil_from_length _ (sym (len-entries (empty {K = Place} {X = Entry} {R = place_cmp}))
    ∙ len-empty place_cmp Entry))

-- no operation is the image of none
empty_staged : (s : HeapImage) → s.image ≡ empty_image →
    IsStaged nothing.begun nothing.rows [] s
empty_staged s is =
    let none : IsPieceOf [] s = record {
      world = record { each = λ o i. absurd i; one = λ o p i. absurd i };
      closed = record { before = λ o i. absurd i };
      vector = ap (λ (a : Image). a.vector) is;
      rows = λ q entry got.
          (let empty : ◌≡◌ {A = Option Entry} None (Some entry) =
          sym (get-empty place_cmp q) ∙ (sym (ap (λ (a : Image). get a.members q) is) ∙ got) in
          absurd (cc));
    } in
    subst (λ v. IsStaged v [] [] s) (ap (λ (a : Image). a.vector) is)
    (subst (λ rows. IsStaged s.image.vector rows [] s) (ap rows_of is ∙ no_rows)
    (stages.begins [] s none))

pub firsts : laws.Begins
firsts i W stages are h t is =
    let e = are h t is in
    subst (IsBehind i.heaps W h nothing) (sym e) (record {
      heap = refl;
      heaps = refl;
      within = λ o none. absurd none;
      staged = empty_staged (empty_stage i h).held refl;
    })

zeros : (s : ℕ) → slice_index no_counters s ≡ 0
zeros s =
    elim (nat_lt s SITES) as (λ c. nat_lt s SITES ≡ c → slice_index no_counters s ≡ 0) [
      | true ↦ λ test. (let below : s < SITES = grind (arith, nat_tests) in by_site-at (λ _. 0) s 0 below)
      | false ↦ λ test. (let past : SITES ≤ s = grind (arith, nat_tests) in by_site-past (λ _. 0) s 0 past)
    ] refl

pub needs_none : NeedsNone
needs_none set heap k m site x has known =
    let some = known.0 in
    let most = known.1 in
    let zero = zeros site in
    absurd (omega (arith, some, most, zero))

-- ---- the end

pub ends : Ends
ends K W h b t is brought = record {
  holds = stages.ends b.begun b.rows b.set t.held is.staged brought;
  fresh = λ o in_set heap.
      (let vector = vector_is t.held.heaps b.set t.held.heap is.staged.world in
      let counter : slice_index t.held.image.vector o.site ≡ last b.set t.held.heap o.site =
      ap (λ v. slice_index v o.site) is.staged.vector ∙ vector.counter o.site in
      let below : o.n ≤ last b.set t.held.heap o.site =
      last_above b.set t.held.heap o.site o in_set heap refl in
      omega (arith, counter, below));
}
