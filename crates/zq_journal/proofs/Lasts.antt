-- The newest record of a book, and the vector of its state.

use Rattle.std.proofs.Common.{List, Some, [], ap, arith, false, get_or, length, refl, slice_set, subst, suc, sym, take, true, zero, ℕ, ◌+◌, ◌++◌, ◌-◌, ◌<◌, ◌∙◌, ◌∷◌, ◌≡◌, ◌≤◌}
use Rattle.std.proofs.lemmas.List.{set-get_or, take_all, take_more}
use Rattle.std.proofs.lemmas.Option.{get_or_from_slice_get, slice_get_read, slice_get_within}
use Rattle.std.specs.Borrow.{Bor}
use Rattle.std.specs.Prelude.{IfSome, IsSome, Option, is_some, slice_get, ◌↔◌}
use Rattle.zq_model.specs.Limits.{TailLimits}
use Rattle.zq_model.specs.Books.{IsBook, operations_of, replayed}
use Rattle.zq_journal.proofs.Replays.{length_written, new_next, operation_at}
use Rattle.zq_journal.proofs.Wholes.{at_over, length_over, more_over, taken_over, vector_after, vector_more}
use Rattle.zq_journal.specs.Books.{book_over}
use Rattle.zq_journal.specs.Records.{Change, IsRecord, IsRecordable, Record, full_of, leaves_of, placed_in, records_in, records_over, vector_over, vector_past, whole, written_in}
use Rattle.zq_journal.specs.Standing.{IsStanding}
use Rattle.zq_journal.specs.declared.records.Record as code
use Rattle.zq_model.proofs.Dots.{has_not}
use Rattle.zq_model.proofs.Taken.{covers_at, taken_new}
use Rattle.zq_model.specs.Image.{Image}
use Rattle.zq_model.specs.Operation.{Operation, has}
use Rattle.zq_model.specs.Sets.{New, covers, taken_of}
use Rattle.zq_posheap.proofs.Lists.{read_at}
use Rattle.zq_shard.specs.Shard.{HeapImage}

-- the vector of the state is that of the base after the records
pub state_vector : (s : HeapImage) (base : List ℕ) (tail : List code.Record) (limits : TailLimits) (handed : Option ℕ) (stamp count : ℕ) → IsBook (book_over s base (leaves_of (records_in s base tail)) limits handed stamp count) →
    s.image.vector ≡ vector_over s.heap s.heaps base tail
state_vector s base tail limits handed stamp count is =
    ap (λ (a : Image). a.vector) (sym is.replay)
    ∙ vector_after s.heap s.heaps base tail (book_over s base (leaves_of (records_in s base tail)) limits handed stamp count).base refl

-- one record more, over the vector of the state
pub longer_is : (s t : HeapImage) (base : List ℕ) (tail after : List code.Record) (r : code.Record) (limits : TailLimits) (handed : Option ℕ) (stamp count : ℕ) →
    IsBook (book_over s base (leaves_of (records_in s base tail)) limits handed stamp count) → t.heap ≡ s.heap → t.heaps ≡ s.heaps → after ≡ tail ++ r ∷ [] →
    records_in t base after ≡ records_in s base tail ++ full_of s.heap s.heaps s.image.vector r ∷ []
longer_is s t base tail after r limits handed stamp count is heap heaps longer =
    ap (λ h. records_over h t.heaps base after) heap
    ∙ ap (λ K. records_over s.heap K base after) heaps
    ∙ ap (records_in s base) longer
    ∙ more_over s.heap s.heaps base tail r
    ∙ ap (λ v. records_in s base tail ++ full_of s.heap s.heaps v r ∷ []) (sym (state_vector s base tail limits handed stamp count is))

-- what lends the back of a queue lends its last element
pub last_lent : {X : Type 0} (items : List X) (len : ℕ) (lent : Option (Bor X)) (last : Bor X) → len ≡ length items → lent ≡ Some last → (IsSome lent ↔ (0 < len)) →
    IfSome lent (λ x. x.now ≡ get_or items (len - 1) x.now) → slice_get items (length items - 1) ≡ Some last.now
last_lent items len lent last long is filled read =
    let some : 0 < len = filled.0 (ap is_some is) in
    let end : len - 1 ≡ length items - 1 = ap (λ n. n - 1) long in
    let here : last.now ≡ get_or items (len - 1) last.now = subst (λ o. IfSome o (λ x. x.now ≡ get_or items (len - 1) x.now)) is read in
    read_at items (length items - 1) last.now (omega (arith, some, long)) (here ∙ ap (λ n. get_or items n last.now) end)

set_twice : (l : List ℕ) (i a b : ℕ) → slice_set (slice_set l i a) i b ≡ slice_set l i b
set_twice [] i a b = refl
set_twice (x ∷ l) zero a b = refl
set_twice (x ∷ l) (suc i) a b = ap (λ xs. x ∷ xs) (set_twice l i a b)

-- the vector after what was new, with its site's counter one lower, is the vector before it
pub one_lower : (h K : ℕ) (v : List ℕ) (c : Change) → IsRecordable h K (placed_in c) → taken_of v (placed_in c).operation ≡ New →
    slice_set (vector_past v c) (placed_in c).operation.site ((placed_in c).operation.n - 1) ≡ v
one_lower h K v c is new =
    let o : Operation = (placed_in c).operation in
    let parts : (has v o.site o.n ≡ false) × (covers v o.seen ≡ true) = taken_new v o new in
    let positive : 0 < o.n = omega (arith, is.sound.next) in
    let above : get_or v o.site 0 < o.n = has_not v o.site o.n parts.0 positive in
    let seen : get_or o.seen o.site 0 ≤ get_or v o.site 0 = covers_at v o.seen o.site parts.1 is.sound.site in
    let counter : o.n - 1 ≡ get_or v o.site 0 = omega (arith, is.sound.next) in
    set_twice v o.site o.n (o.n - 1) ∙ ap (slice_set v o.site) counter ∙ set-get_or v o.site 0

pub length_tail : (s : HeapImage) (base : List ℕ) (tail : List code.Record) → length (written_in (records_in s base tail)) ≡ length tail
length_tail s base tail = length_written (records_in s base tail) ∙ length_over s.heap s.heaps base tail

-- r is the newest record of a book
module _ (s : HeapImage) (base : List ℕ) (tail : List code.Record) (limits : TailLimits) (handed : Option ℕ) (stamp count : ℕ) (is : IsStanding s base (records_in s base tail) limits handed stamp count) (r : code.Record)
    (at : slice_get tail (length tail - 1) ≡ Some r) where
  -- the vector before it
  abbrev pub vector_before : List ℕ
  vector_before = vector_over s.heap s.heaps base (take (length tail - 1) tail)

  -- the record with its whole operation
  abbrev pub newest_full : Record
  newest_full = full_of s.heap s.heaps vector_before r

  pub newest_within : length tail - 1 < length tail
  newest_within = slice_get_within tail (length tail - 1) r at

  read : r ≡ get_or tail (length tail - 1) r
  read = sym (get_or_from_slice_get tail (length tail - 1) r r at)

  full_read : newest_full ≡ get_or (records_in s base tail) (length tail - 1) newest_full
  full_read = at_over s.heap s.heaps base tail (length tail - 1) r newest_within read

  inside : length tail - 1 < length (records_in s base tail)
  inside = omega (arith, newest_within, length_over s.heap s.heaps base tail)

  pub newest_recordable : IsRecordable s.heap s.heaps (placed_in newest_full.what)
  newest_recordable =
      let here : IsRecord s.heap s.heaps newest_full = rw full_read (is.each (length tail - 1) newest_full inside) in
      here.op

  -- its operation is the last of the tail
  pub newest_at : slice_get (operations_of (written_in (records_in s base tail))) (length (written_in (records_in s base tail)) - 1) ≡ Some (placed_in newest_full.what).operation
  newest_at =
      ap (λ n. slice_get (operations_of (written_in (records_in s base tail))) (n - 1)) (length_tail s base tail)
      ∙ operation_at (records_in s base tail) (length tail - 1) newest_full
      (slice_get_read (records_in s base tail) (length (records_in s base tail)) (length tail - 1) newest_full refl inside full_read)

  -- the state's vector with its site's counter one lower is the vector before it
  pub newest_before : slice_set s.image.vector (placed_in newest_full.what).operation.site ((placed_in newest_full.what).operation.n - 1) ≡ vector_before
  newest_before =
      let a : Image = (book_over s base (leaves_of (records_in s base tail)) limits handed stamp count).base in
      let long : length tail - 1 + 1 ≡ length tail = omega (arith, newest_within) in
      let all : tail ≡ take (length tail - 1) tail ++ r ∷ [] =
      sym (take_all (length tail) tail (omega arith))
      ∙ ap (λ n. take n tail) (sym long)
      ∙ take_more tail (length tail - 1) r newest_within
      ∙ ap (λ x. take (length tail - 1) tail ++ x ∷ []) (sym read) in
      let past : s.image.vector ≡ vector_past vector_before newest_full.what =
      state_vector s base tail limits handed stamp count is.book ∙ ap (vector_over s.heap s.heaps base) all ∙ vector_more s.heap s.heaps base (take (length tail - 1) tail) r in
      let first : (replayed (written_in (take (length tail - 1) (records_in s base tail))) a).vector ≡ vector_before =
      ap (λ rs. (replayed (written_in rs) a).vector) (taken_over (length tail - 1) s.heap s.heaps base tail)
      ∙ vector_after s.heap s.heaps base (take (length tail - 1) tail) a refl in
      let new : taken_of vector_before (placed_in newest_full.what).operation ≡ New =
      ap (λ v. taken_of v (placed_in newest_full.what).operation) (sym first)
      ∙ new_next s.heaps s.heap (records_in s base tail) (length tail - 1) newest_full a inside full_read is.book.steps in
      ap (λ v. slice_set v (placed_in newest_full.what).operation.site ((placed_in newest_full.what).operation.n - 1)) past
      ∙ one_lower s.heap s.heaps vector_before newest_full.what newest_recordable new

  -- what was asked for at that vector
  pub newest_asked : (heap heaps site n : ℕ) (v seen : List ℕ) → heap ≡ s.heap → heaps ≡ s.heaps → v ≡ s.image.vector → site ≡ (placed_in newest_full.what).operation.site →
      n ≡ (placed_in newest_full.what).operation.n → seen ≡ slice_set v site (n - 1) → whole heap heaps seen r.what ≡ newest_full.what
  newest_asked heap heaps site n v seen heap_is heaps_is vector_is site_is n_is set =
      let before : seen ≡ vector_before =
      set
      ∙ ap (λ w. slice_set w site (n - 1)) vector_is
      ∙ ap (λ t. slice_set s.image.vector t (n - 1)) site_is
      ∙ ap (λ m. slice_set s.image.vector (placed_in newest_full.what).operation.site (m - 1)) n_is
      ∙ newest_before in
      ap (λ h. whole h heaps seen r.what) heap_is ∙ ap (λ K. whole s.heap K seen r.what) heaps_is ∙ ap (λ w. whole s.heap s.heaps w r.what) before
