-- The records of a book keep the bounds of its images.

use Rattle.std.proofs.Common.{Option, List, [], ap, arith, drop, get_or-set_other, get_or-set_same, inl, inr, le_of_eq, length, map, subst, suc, sym, take, zero, ℕ, ◌+◌, ◌∙◌, ◌∷◌, ◌≡◌, ◌≤◌, ◌<◌}
use Rattle.std.proofs.lemmas.Bool.{cases_eq}
use Rattle.std.proofs.lemmas.List.{drop-map, take_all}
use Rattle.std.proofs.lemmas.Bool.{and_parts}
use Rattle.std.proofs.lemmas.List.Elements.{All-head, All-tail}
use Rattle.std.specs.List.{All}
use Rattle.std.specs.Prelude.{slice_index, slice_set, true}
use Rattle.zq_dots.specs.Placed.{Placed}
use Rattle.zq_model.specs.Limits.{TailLimits}
use Rattle.zq_model.proofs.KeptBooks.{undone_cut}
use Rattle.zq_model.proofs.NewRecords.{change_is_new}
use Rattle.zq_model.specs.Books.{are_steps_over, is_change_over, steps_of}
use Rattle.zq_model.specs.Undoing.{after_leaves, operation_on, undone}
use Rattle.zq_journal.proofs.Entered.{state_after}
use Rattle.zq_journal.proofs.Missing.{operation_is}
use Rattle.zq_journal.specs.Books.{book_over}
use Rattle.zq_journal.specs.Records.{IsRecord, IsRecordable, Record, leaf_of, leaves_of, placed_in, undone_at, written_in}
use Rattle.zq_journal.specs.Standing.{IsStanding}
use Rattle.zq_model.proofs.BoundedImages.{bounded_more, bounded_step}
use Rattle.zq_model.proofs.Dots.{has_not}
use Rattle.zq_model.proofs.Taken.{taken_new}
use Rattle.zq_model.specs.Bounded.{HasShortNames, IsBounded}
use Rattle.zq_model.specs.Image.{Image, image_after}
use Rattle.zq_model.specs.Operation.{Operation}
use Rattle.zq_model.specs.Sets.{IsCounters, IsHeaps, IsOperation, New, SITES, taken_of}
use Rattle.zq_shard.specs.Shard.{HeapImage}

-- what is recorded is an operation among the heap's
is_operation : (h K : ℕ) (p : Placed) → IsRecordable h K p → IsOperation K p.operation
is_operation h K p is = record {
  heaps = subst IsHeaps is.heaps is.sound.heaps;
  act = is.sound.act;
  heap = is.heap ∙ sym is.placed;
  site = is.sound.site;
  seen = is.sound.seen;
  next = is.sound.next;
  bounded = is.sound.bounded;
}

has_short_names : (h K : ℕ) (p : Placed) → IsRecordable h K p → HasShortNames p.operation
has_short_names h K p is = record { key = is.sound.key; member = is.sound.member }

-- one record keeps the bounds
bounded_next : (h K : ℕ) (r : Record) (a : Image) → IsRecord h K r → is_change_over K h a.vector (leaf_of r).written.change ≡ true → IsBounded K h a →
    IsBounded K h (image_after (operation_on (leaf_of r)) a)
bounded_next h K r a is over bounded =
    let p : Placed = placed_in r.what in
    let same : operation_on (leaf_of r) ≡ p.operation = operation_is r.what in
    let new : taken_of a.vector (operation_on (leaf_of r)) ≡ New = (change_is_new K h a.vector (leaf_of r).written.change over).1 in
    subst (λ o. IsBounded K h (image_after o a)) (sym same)
    (subst (λ k. IsBounded K k (image_after p.operation a)) is.op.heap
    (bounded_step K p.operation a (subst (λ k. IsBounded K k a) (sym is.op.heap) bounded) (is_operation h K p is.op) (has_short_names h K p is.op)
    (subst (λ o. taken_of a.vector o ≡ New) same new)))

-- the first records of a tail keep them
pub bounded_after : (n h K : ℕ) (records : List Record) (a : Image) → All (IsRecord h K) records →
    are_steps_over K h a (steps_of (map (λ l. l.written) (leaves_of records))) ≡ true → IsBounded K h a → IsBounded K h (after_leaves (take n (leaves_of records)) a)
bounded_after zero h K records a all over bounded = bounded
bounded_after (suc n) h K [] a all over bounded = bounded
bounded_after (suc n) h K (r ∷ records) a all over bounded =
    let both : (is_change_over K h a.vector (leaf_of r).written.change ≡ true)
    × (are_steps_over K h (image_after (operation_on (leaf_of r)) a) (steps_of (map (λ l. l.written) (leaves_of records))) ≡ true) = and_parts _ _ over in
    bounded_after n h K records (image_after (operation_on (leaf_of r)) a) (All-tail (IsRecord h K) r records all) both.1
    (bounded_next h K r a (All-head (IsRecord h K) r records all) both.0 bounded)

-- ---- under the vector of the state

-- an image keeps its bounds under a vector that has no less
bounded_wider : (K h : ℕ) (a : Image) (v : List ℕ) → IsCounters v → ((t : ℕ) → slice_index a.vector t ≤ slice_index v t) → IsBounded K h a →
    IsBounded K h (record { vector = v; members = a.members })
bounded_wider K h a v counters more is = record {
  counters = counters;
  entries = is.entries;
  additions = λ k m s x has. bounded_more K h a.vector v k m s x is.counters.wide (λ t _. more t) (is.additions k m s x has);
}

-- a new operation raises its site's counter and no other
pub grown : (o : Operation) (v : List ℕ) → length v ≡ SITES → o.site < SITES → 1 ≤ o.n → taken_of v o ≡ New → (t : ℕ) → slice_index v t ≤ slice_index (slice_set v o.site o.n) t
grown o v wide site counted new t =
    let above : slice_index v o.site < o.n = has_not v o.site o.n (taken_new v o new).0 (omega arith) in
    elim (cases_eq t o.site) [
      | inl same ↦ subst (λ r. slice_index v r ≤ slice_index (slice_set v o.site o.n) r) (sym same)
          (let own : slice_index (slice_set v o.site o.n) o.site ≡ o.n = get_or-set_same v o.site o.n 0 (omega arith) in omega arith)
      | inr apart ↦ le_of_eq (sym (get_or-set_other v o.site t o.n 0 apart))
    ]

grown_next : (h K : ℕ) (r : Record) (a : Image) → IsRecord h K r → is_change_over K h a.vector (leaf_of r).written.change ≡ true → IsBounded K h a → (t : ℕ) →
    slice_index a.vector t ≤ slice_index (image_after (operation_on (leaf_of r)) a).vector t
grown_next h K r a is over bounded t =
    let p : Placed = placed_in r.what in
    let same : operation_on (leaf_of r) ≡ p.operation = operation_is r.what in
    let new : taken_of a.vector (operation_on (leaf_of r)) ≡ New = (change_is_new K h a.vector (leaf_of r).written.change over).1 in
    let next : p.operation.n ≡ slice_index p.operation.seen p.operation.site + 1 = is.op.sound.next in
    subst (λ o. slice_index a.vector t ≤ slice_index (image_after o a).vector t) (sym same)
    (grown p.operation a.vector bounded.counters.wide is.op.sound.site (omega arith) (subst (λ o. taken_of a.vector o ≡ New) same new) t)

-- the vector after the records has no less than that before them
grown_after : (h K : ℕ) (records : List Record) (a : Image) → All (IsRecord h K) records → are_steps_over K h a (steps_of (written_in records)) ≡ true → IsBounded K h a → (t : ℕ) →
    slice_index a.vector t ≤ slice_index (after_leaves (leaves_of records) a).vector t
grown_after h K [] a all over bounded t = omega arith
grown_after h K (r ∷ records) a all over bounded t =
    let both : (is_change_over K h a.vector (leaf_of r).written.change ≡ true)
    × (are_steps_over K h (image_after (operation_on (leaf_of r)) a) (steps_of (written_in records)) ≡ true) = and_parts _ _ over in
    let own : IsRecord h K r = All-head (IsRecord h K) r records all in
    let first : slice_index a.vector t ≤ slice_index (image_after (operation_on (leaf_of r)) a).vector t = grown_next h K r a own both.0 bounded t in
    let rest = grown_after h K records (image_after (operation_on (leaf_of r)) a) (All-tail (IsRecord h K) r records all) both.1 (bounded_next h K r a own both.0 bounded) t in
    omega (arith, first, rest)

-- the members after the first records keep their bounds under the vector after all of them
bounded_late : (n h K : ℕ) (records : List Record) (a : Image) → All (IsRecord h K) records → are_steps_over K h a (steps_of (written_in records)) ≡ true → IsBounded K h a →
    IsCounters (after_leaves (leaves_of records) a).vector →
    IsBounded K h (record { vector = (after_leaves (leaves_of records) a).vector; members = (after_leaves (take n (leaves_of records)) a).members })
bounded_late zero h K records a all over bounded counters =
    bounded_wider K h a (after_leaves (leaves_of records) a).vector counters (grown_after h K records a all over bounded) bounded
bounded_late (suc n) h K [] a all over bounded counters = bounded
bounded_late (suc n) h K (r ∷ records) a all over bounded counters =
    let both : (is_change_over K h a.vector (leaf_of r).written.change ≡ true)
    × (are_steps_over K h (image_after (operation_on (leaf_of r)) a) (steps_of (written_in records)) ≡ true) = and_parts _ _ over in
    bounded_late n h K records (image_after (operation_on (leaf_of r)) a) (All-tail (IsRecord h K) r records all) both.1
    (bounded_next h K r a (All-head (IsRecord h K) r records all) both.0 bounded) counters

-- the state of a book keeps its bounds
pub bounded_state : (s : HeapImage) (v : List ℕ) (records : List Record) (limits : TailLimits) (handed : Option ℕ) (stamp count : ℕ) → IsStanding s v records limits handed stamp count → IsBounded s.heaps s.heap s.image
bounded_state s v records limits handed stamp count is =
    let a : Image = (book_over s v (leaves_of records) limits handed stamp count).base in
    subst (IsBounded s.heaps s.heap)
    (ap (λ ls. after_leaves ls a) (take_all (length (leaves_of records)) (leaves_of records) (omega arith)) ∙ state_after s v (leaves_of records) limits handed stamp count is.book)
    (bounded_after (length (leaves_of records)) s.heap s.heaps records a is.each is.book.steps is.bounded)

-- the members that undoing the newest records of a book gives keep their bounds under the vector of its state
pub bounded_undone : (n : ℕ) (s : HeapImage) (v : List ℕ) (records : List Record) (limits : TailLimits) (handed : Option ℕ) (stamp count : ℕ) → IsStanding s v records limits handed stamp count →
    IsBounded s.heaps s.heap (undone_at (drop n records) s.image)
bounded_undone n s v records limits handed stamp count is =
    let bounded : IsBounded s.heaps s.heap s.image = bounded_state s v records limits handed stamp count is in
    let a : Image = (book_over s v (leaves_of records) limits handed stamp count).base in
    let state : after_leaves (leaves_of records) a ≡ s.image = state_after s v (leaves_of records) limits handed stamp count is.book in
    let late = bounded_late n s.heap s.heaps records a is.each is.book.steps is.bounded (subst (λ (b : Image). IsCounters b.vector) (sym state) bounded.counters) in
    let members : undone (leaves_of (drop n records)) s.image.members ≡ (after_leaves (take n (leaves_of records)) a).members =
    ap (λ ls. undone ls s.image.members) (sym (drop-map leaf_of n records))
    ∙ ap (λ (b : Image). undone (drop n (leaves_of records)) b.members) (sym state) ∙ undone_cut n (leaves_of records) a is.kept in
    let same : undone_at (drop n records) s.image ≡ record { vector = (after_leaves (leaves_of records) a).vector; members = (after_leaves (take n (leaves_of records)) a).members } =
    ap (λ m. record { vector = s.image.vector; members = m }) members
    ∙ ap (λ (b : Image). record { vector = b.vector; members = (after_leaves (take n (leaves_of records)) a).members }) (sym state) in
    subst (IsBounded s.heaps s.heap) (sym same) late
