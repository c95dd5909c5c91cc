-- The records of the code, as those of a book.

use Rattle.std.specs.Prelude.{IfSome, List, Option, [], false, filter, if◌then◌else◌, length, map, nat_le, not, slice_index, slice_set, suc, ℕ, ◌+◌, ◌-◌, ◌∷◌, ◌≡◌}
use Rattle.zq_dots.specs.Act.{act_of}
use Rattle.zq_dots.specs.Placed.{IsRanged, Placed}
use Rattle.zq_model.specs.Books as book
use Rattle.zq_model.specs.Undoing.{Leaf, undone}
use Rattle.zq_journal.specs.declared.records.Change as change
use Rattle.zq_journal.specs.declared.records.Change.TheVariants as kept
use Rattle.zq_journal.specs.declared.records.Record as kept_record
use Rattle.zq_model.specs.Heaps.{heap_of}
use Rattle.zq_model.specs.Image.{Entry, Image, is_bare}
use Rattle.zq_model.specs.Operation.{Operation, has}
use Rattle.zq_shard.specs.Queues.{or_none}
use Rattle.zq_shard.specs.Shard.{HeapImage}

-- what an operation was to the book that recorded it: made there, or made elsewhere
pub data Change : Type 0 where
  Made : (op : Placed) → Change
  Took : (op : Placed) → Change

-- a record with its whole operation
pub record Record : Type 0 where
  pub stamp : ℕ
  pub what : Change
  pub before : Option Entry

-- what a record keeps of its operation, and the rest: a heap of a number of heaps, whose vector was
-- v before it
abbrev pub whole : ℕ → ℕ → List ℕ → change.Change → Change
whole h K v (kept.Made own) = Made (record {
  heaps = K;
  operation = record { heap = h; site = own.dot.site; n = own.dot.n; seen = v; key = own.names.0; member = own.names.1; act = act_of own.act };
})
whole h K v (kept.Took op) = Took op.value

abbrev pub placed_in : Change → Placed
placed_in (Made op) = op
placed_in (Took op) = op

abbrev pub change_of : Change → book.Change
change_of (Made op) = book.Made op.operation
change_of (Took op) = book.Took op.operation

-- the bytes of its key and its member
abbrev pub bytes_kept : change.Change → ℕ
bytes_kept (kept.Made own) = length own.names.0 + length own.names.1
bytes_kept (kept.Took op) = length op.value.operation.key + length op.value.operation.member

abbrev pub bytes_kept_in : List kept_record.Record → ℕ
bytes_kept_in [] = 0
bytes_kept_in (r ∷ records) = bytes_kept r.what + bytes_kept_in records

-- how many of the oldest records go, so that the rest has at most so many of these bytes
abbrev pub cut_kept : ℕ → List kept_record.Record → ℕ
cut_kept most [] = 0
cut_kept most (r ∷ records) = if nat_le (bytes_kept_in (r ∷ records)) most then 0 else suc
    (cut_kept most records)

-- the vector after an operation
abbrev pub vector_past : List ℕ → Change → List ℕ
vector_past v change = slice_set v (placed_in change).operation.site (placed_in change).operation.n

abbrev pub full_of : ℕ → ℕ → List ℕ → kept_record.Record → Record
full_of h K v r = record { stamp = r.stamp; what = whole h K v r.what; before = r.before }

-- the records with their whole operations, over a vector
abbrev pub records_over : ℕ → ℕ → List ℕ → List kept_record.Record → List Record
records_over h K v [] = []
records_over h K v (r ∷ records) =
    full_of h K v r ∷ records_over h K (vector_past v (whole h K v r.what)) records

-- the vector after the records
abbrev pub vector_over : ℕ → ℕ → List ℕ → List kept_record.Record → List ℕ
vector_over h K v [] = v
vector_over h K v (r ∷ records) = vector_over h K (vector_past v (whole h K v r.what)) records

-- the vector before an operation, from that after it: its site's counter is one lower
abbrev pub vector_below : List ℕ → Change → List ℕ
vector_below v change =
    slice_set v (placed_in change).operation.site ((placed_in change).operation.n - 1)

-- the vector before the records, where v is that after them: it is counted down, the newest first
abbrev pub vector_under : ℕ → ℕ → List ℕ → List kept_record.Record → List ℕ
vector_under h K v [] = v
vector_under h K v (r ∷ records) = vector_below (vector_under h K v records) (whole h K v r.what)

-- each record's counter is that of its site behind it, where v is the vector after the records
abbrev pub AreCounted : ℕ → ℕ → List ℕ → List kept_record.Record → Type 0
AreCounted h K v [] = Unit {0}
AreCounted h K v (r ∷ records) =
    (slice_index (vector_under h K v records) (placed_in (whole h K v r.what)).operation.site
    ≡ (placed_in (whole h K v r.what)).operation.n) × AreCounted h K v records

-- the vector lacks the operation of the first record, where there is one
abbrev pub LacksFirst : ℕ → ℕ → List ℕ → List kept_record.Record → Type 0
LacksFirst h K v [] = Unit {0}
LacksFirst h K v (r ∷ records) = has v (placed_in (whole h K v r.what)).operation.site
    (placed_in (whole h K v r.what)).operation.n ≡ false

-- the records of a heap
abbrev pub records_in : HeapImage → List ℕ → List kept_record.Record → List Record
records_in s v records = records_over s.heap s.heaps v records

-- a record, with what its member had before it
abbrev pub leaf_of : Record → Leaf
leaf_of r = record { written = record { stamp = r.stamp; change = change_of r.what }; before = or_none r.before }

abbrev pub leaves_of : List Record → List Leaf
leaves_of records = map leaf_of records

-- the records without what their members had
abbrev pub written_in : List Record → List book.Record
written_in records = map (λ leaf. leaf.written) (leaves_of records)

-- the image with the records undone from its members, at the vector that it has
abbrev pub undone_at : List Record → Image → Image
undone_at records a = record { vector = a.vector; members = undone (leaves_of records) a.members }

-- the operation of a site of this number of heaps
abbrev pub placed_at : ℕ → Operation → Placed
placed_at heaps o = record { heaps = heaps; operation = o }

-- an operation of the heap h, of K, whose numbers are in range
pub record IsRecordable (h K : ℕ) (p : Placed) : Type 0 where
  pub heap : p.operation.heap ≡ h
  pub heaps : p.heaps ≡ K
  pub placed : heap_of p.operation.key p.operation.member K ≡ h
  pub sound : IsRanged p

-- a record of such an operation, on a member that had additions before it or did not stand
pub record IsRecord (h K : ℕ) (r : Record) : Type 0 where
  pub op : IsRecordable h K (placed_in r.what)
  pub full : IfSome r.before (λ entry. is_bare entry ≡ false)

-- the operations of the records that the vector lacks
abbrev pub missing_of : List ℕ → List Record → List Placed
missing_of v records = filter (λ p. not (has v p.operation.site p.operation.n))
    (map (λ r. placed_in r.what) records)
