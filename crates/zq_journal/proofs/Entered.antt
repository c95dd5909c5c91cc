-- One more record: what it makes of a book whose tail can be undone.

use Rattle.std.proofs.Common.{List, None, Option, Some, [], ap, arith, false, refl, subst, sym, ℕ, ◌+◌, ◌++◌, ◌∙◌, ◌∷◌, ◌≡◌, ◌≤◌}
use Rattle.std.proofs.lemmas.Bool.{cond-false, cond-true}
use Rattle.std.proofs.lemmas.List.{map-append}
use Rattle.std.proofs.lemmas.List.Elements.{All-push}
use Rattle.std.specs.FinMap.{get}
use Rattle.std.specs.Prelude.{IfSome}
use Rattle.zq_dots.specs.Placed.{Placed}
use Rattle.zq_model.specs.Limits.{TailLimits}
use Rattle.zq_model.proofs.KeptBooks.{after_replay, kept_longer, undone_recorded}
use Rattle.zq_model.specs.Books.{IsBook, merged, recorded, taken_over}
use Rattle.zq_model.specs.Undoing.{AreKept, Leaf, after_leaves, operation_on, undone}
use Rattle.zq_journal.proofs.Missing.{operation_is}
use Rattle.zq_journal.specs.Books.{LAST_STAMP, book_over}
use Rattle.zq_journal.specs.Records.{IsRecord, IsRecordable, Record, leaf_of, leaves_of, placed_in}
use Rattle.zq_journal.specs.Standing.{IsStanding}
use Rattle.zq_model.proofs.Entries.{is_bare-no_additions}
use Rattle.zq_model.specs.Bounded.{IsBounded}
use Rattle.zq_model.specs.Image.{Entry, Image, Members, Place, image_after, is_bare, join, no_additions, place_of, unless_bare}
use Rattle.zq_model.specs.Rows.{AreEntries}
use Rattle.zq_shard.specs.Queues.{or_none}
use Rattle.zq_shard.specs.Shard.{HeapImage}

-- the state t is s after the leaf's operation, and the leaf keeps what its member had in s
pub record IsNext (s t : HeapImage) (leaf : Leaf) : Type 0 where
  pub heap : t.heap ≡ s.heap
  pub heaps : t.heaps ≡ s.heaps
  pub rule : t.rule ≡ s.rule
  pub image : t.image ≡ image_after (operation_on leaf) s.image
  pub had : get s.image.members (place_of (operation_on leaf)) ≡ unless_bare leaf.before

-- the records give the members of the base as before
same_base : (s t : HeapImage) (leaves : List Leaf) (leaf : Leaf) → IsNext s t leaf → undone (leaves ++ leaf ∷ []) t.image.members ≡ undone leaves s.image.members
same_base s t leaves leaf is = ap (λ (a : Image). undone (leaves ++ leaf ∷ []) a.members) is.image ∙ undone_recorded leaves leaf s.image is.had

entered_over : (s t : HeapImage) (v : List ℕ) (leaves : List Leaf) (leaf : Leaf) (limits : TailLimits) (handed : Option ℕ) (stamp count : ℕ) → IsNext s t leaf →
    book_over t v (leaves ++ leaf ∷ []) limits handed leaf.written.stamp (count + 1) ≡ recorded (book_over s v leaves limits handed stamp count) leaf.written.stamp leaf.written.change
entered_over s t v leaves leaf limits handed stamp count is =
    rw (same_base s t leaves leaf is, is.heap, is.heaps, is.rule, is.image, map-append (λ (l : Leaf). l.written) leaves (leaf ∷ [])) refl

leaves_more : (records : List Record) (r : Record) → leaves_of (records ++ r ∷ []) ≡ leaves_of records ++ leaf_of r ∷ []
leaves_more records r = map-append leaf_of records (r ∷ [])

-- the book with one record more
pub entered_is : (s t : HeapImage) (v : List ℕ) (records after : List Record) (r : Record) (limits : TailLimits) (handed : Option ℕ) (stamp count : ℕ) → IsNext s t (leaf_of r) → after ≡ records ++ r ∷ [] →
    book_over t v (leaves_of after) limits handed r.stamp (count + 1) ≡ recorded (book_over s v (leaves_of records) limits handed stamp count) r.stamp (leaf_of r).written.change
entered_is s t v records after r limits handed stamp count is longer =
    ap (λ leaves. book_over t v leaves limits handed r.stamp (count + 1)) (ap leaves_of longer ∙ leaves_more records r)
    ∙ entered_over s t v (leaves_of records) (leaf_of r) limits handed stamp count is

-- the image after the records of a book is its state
pub state_after : (s : HeapImage) (v : List ℕ) (leaves : List Leaf) (limits : TailLimits) (handed : Option ℕ) (stamp count : ℕ) → IsBook (book_over s v leaves limits handed stamp count) →
    after_leaves leaves (book_over s v leaves limits handed stamp count).base ≡ s.image
state_after s v leaves limits handed stamp count is = after_replay leaves (book_over s v leaves limits handed stamp count).base ∙ is.replay

entered_kept : (s t : HeapImage) (v : List ℕ) (leaves : List Leaf) (leaf : Leaf) (limits : TailLimits) (handed : Option ℕ) (stamp count : ℕ) → IsNext s t leaf → IsBook (book_over s v leaves limits handed stamp count) →
    AreKept leaves (record { vector = v; members = undone leaves s.image.members }) →
    AreKept (leaves ++ leaf ∷ []) (record { vector = v; members = undone (leaves ++ leaf ∷ []) t.image.members })
entered_kept s t v leaves leaf limits handed stamp count is book kept =
    subst (λ members. AreKept (leaves ++ leaf ∷ []) (record { vector = v; members = members })) (sym (same_base s t leaves leaf is))
    (kept_longer leaves leaf (record { vector = v; members = undone leaves s.image.members }) kept
    (ap (λ (a : Image). get a.members (place_of (operation_on leaf))) (state_after s v leaves limits handed stamp count book) ∙ is.had))

-- a record of what is new keeps what a book keeps
pub entered_stands : (s t : HeapImage) (v : List ℕ) (records after : List Record) (r : Record) (limits : TailLimits) (handed : Option ℕ) (stamp count : ℕ) → IsNext s t (leaf_of r) → after ≡ records ++ r ∷ [] →
    IsStanding s v records limits handed stamp count → IsBook (recorded (book_over s v (leaves_of records) limits handed stamp count) r.stamp (leaf_of r).written.change) → IsRecord s.heap s.heaps r →
    r.stamp ≤ LAST_STAMP → count + 1 ≤ LAST_STAMP → IsStanding t v after limits handed r.stamp (count + 1)
entered_stands s t v records after r limits handed stamp count is longer old book own low few =
    let leaves : leaves_of after ≡ leaves_of records ++ leaf_of r ∷ [] = ap leaves_of longer ∙ leaves_more records r in
    record {
      book = subst IsBook (sym (entered_is s t v records after r limits handed stamp count is longer)) book;
      kept =
          subst (λ ls. AreKept ls (record { vector = v; members = undone ls t.image.members })) (sym leaves)
          (entered_kept s t v (leaves_of records) (leaf_of r) limits handed stamp count is old.book old.kept);
      bounded =
          rw (is.heap, is.heaps)
          (subst (λ members. IsBounded s.heaps s.heap (record { vector = v; members = members }))
          (sym (ap (λ ls. undone ls t.image.members) leaves ∙ same_base s t (leaves_of records) (leaf_of r) is)) old.bounded);
      each = rw (is.heap, is.heaps, longer) (All-push (IsRecord s.heap s.heaps) records r old.each own);
      last_stamp = low;
      last_count = few;
    }

-- ---- what a member had

had_at : (members : Members) (q : Place) (had : Option Entry) → AreEntries members → get members q ≡ had → had ≡ unless_bare (or_none had)
had_at members q None are is = sym (cond-true (is_bare no_additions) None (Some no_additions) is_bare-no_additions)
had_at members q (Some e) are is = sym (cond-false (is_bare e) None (Some e) (are q.0 q.1 e is).1)

full_at : (members : Members) (q : Place) (had : Option Entry) → AreEntries members → get members q ≡ had → IfSome had (λ entry. is_bare entry ≡ false)
full_at members q None are is = tt {0}
full_at members q (Some e) are is = (are q.0 q.1 e is).1

-- the operation of a record was put in, and the record has what its member had
pub record IsPutIn (s t : HeapImage) (r : Record) (p : Placed) : Type 0 where
  pub op : p ≡ placed_in r.what
  pub heap : t.heap ≡ s.heap
  pub heaps : t.heaps ≡ s.heaps
  pub rule : t.rule ≡ s.rule
  pub image : t.image ≡ image_after p.operation s.image
  pub had : r.before ≡ get s.image.members (place_of p.operation)
  pub bounded : IsBounded s.heaps s.heap s.image

same_op : (s t : HeapImage) (r : Record) (p : Placed) → IsPutIn s t r p → p.operation ≡ operation_on (leaf_of r)
same_op s t r p is = ap (λ (q : Placed). q.operation) is.op ∙ sym (operation_is r.what)

pub next_from : (s t : HeapImage) (r : Record) (p : Placed) → IsPutIn s t r p → IsNext s t (leaf_of r)
next_from s t r p is =
    let o : p.operation ≡ operation_on (leaf_of r) = same_op s t r p is in
    let had : r.before ≡ get s.image.members (place_of (operation_on (leaf_of r))) = is.had ∙ ap (λ q. get s.image.members (place_of q)) o in
    record {
      heap = is.heap;
      heaps = is.heaps;
      rule = is.rule;
      image = is.image ∙ ap (λ q. image_after q s.image) o;
      had = sym had ∙ had_at s.image.members (place_of (operation_on (leaf_of r))) r.before is.bounded.entries (sym had);
    }

pub record_from : (s t : HeapImage) (r : Record) (p : Placed) → IsPutIn s t r p → IsRecordable s.heap s.heaps (placed_in r.what) → IsRecord s.heap s.heaps r
record_from s t r p is own = record { op = own; full = full_at s.image.members (place_of p.operation) r.before is.bounded.entries (sym is.had) }

-- ---- no records

-- the book of a heap with no records
pub opened_stands : (s : HeapImage) (v : List ℕ) (records : List Record) (limits : TailLimits) (handed : Option ℕ) (stamp count : ℕ) → records ≡ [] → v ≡ s.image.vector → IsBounded s.heaps s.heap s.image →
    stamp ≤ LAST_STAMP → count ≤ LAST_STAMP → IsStanding s v records limits handed stamp count
opened_stands s v records limits handed stamp count none vector bounded low few = rw (none, vector) (record {
  book = record { steps = refl; replay = refl; stamps = refl; count = omega arith };
  kept = tt {0};
  bounded = bounded;
  each = λ k d below. absurd (omega arith);
  last_stamp = low;
  last_count = few;
})

-- the book of a heap with another merged in
pub merged_is : (s t : HeapImage) (v w : List ℕ) (records after : List Record) (limits : TailLimits) (handed : Option ℕ) (stamp at count : ℕ) (other : Image) → t.heap ≡ s.heap → t.heaps ≡ s.heaps → t.rule ≡ s.rule →
    t.image ≡ join s.image other → w ≡ t.image.vector → after ≡ [] →
    book_over t w (leaves_of after) limits handed at (count + 1) ≡ merged (book_over s v (leaves_of records) limits handed stamp count) at other
merged_is s t v w records after limits handed stamp at count other heap heaps rule joined vector none = rw (none, vector, joined, heap, heaps, rule) refl

-- the book of a heap in whose place another was taken
pub taken_over_is : (s t : HeapImage) (v w : List ℕ) (records after : List Record) (limits : TailLimits) (handed : Option ℕ) (stamp at count : ℕ) (other : HeapImage) → t ≡ other → other.heap ≡ s.heap → other.heaps ≡ s.heaps → other.rule ≡ s.rule →
    w ≡ t.image.vector → after ≡ [] →
    book_over t w (leaves_of after) limits handed at (count + 1) ≡ taken_over (book_over s v (leaves_of records) limits handed stamp count) at other.image
taken_over_is s t v w records after limits handed stamp at count other is heap heaps rule vector none = rw (none, vector, is, heap, heaps, rule) refl
