-- The records of a book, undone one by one: the record at the place i.

use Rattle.std.proofs.Common.{List, Option, ap, arith, drop, get_or, length, sym, take, ℕ, ◌+◌, ◌<◌, ◌∙◌, ◌≡◌}
use Rattle.std.specs.List.{All}
use Rattle.zq_journal.proofs.Replays.{undone_next}
use Rattle.zq_journal.proofs.Wholes.{at_over, length_over}
use Rattle.zq_journal.specs.Records.{IsRecord, Record, full_of, placed_in, records_in, undone_at, vector_over, whole}
use Rattle.zq_journal.specs.declared.records.Record as code
use Rattle.zq_model.specs.Image.{Entry, Place, place_of}
use Rattle.zq_shard.specs.Queues.{or_none}
use Rattle.zq_shard.specs.Shard.{HeapImage, with_entry}

module _ (s : HeapImage) (base : List ℕ) (tail : List code.Record) (i : ℕ) (r : code.Record) (below : i < length tail) (is : r ≡ get_or tail i r) where
  abbrev all : List Record
  all = records_in s base tail

  abbrev before : List ℕ
  before = vector_over s.heap s.heaps base (take i tail)

  abbrev here : Record
  here = full_of s.heap s.heaps before r

  at : here ≡ get_or all i here
  at = at_over s.heap s.heaps base tail i r below is

  inside : i < length all
  inside = omega (arith, below, length_over s.heap s.heaps base tail)

  pub record_here : All (IsRecord s.heap s.heaps) all → IsRecord s.heap s.heaps here
  record_here each = rw at (each i here inside)

  -- with what its member had given back, the records from its place on are undone
  pub undone_here : (t : HeapImage) (place : Place) (had : Option Entry) → ((h K : ℕ) (v : List ℕ) → place ≡ place_of (placed_in (whole h K v r.what)).operation) → had ≡ r.before →
      t.image ≡ undone_at (drop (i + 1) all) s.image → with_entry place (or_none had) t.image ≡ undone_at (drop i all) s.image
  undone_here t place had place_is had_is image =
      ap (λ (q : Place). with_entry q (or_none had) t.image) (place_is s.heap s.heaps before)
      ∙ ap (λ b. with_entry (place_of (placed_in here.what).operation) (or_none b) t.image) had_is
      ∙ ap (with_entry (place_of (placed_in here.what).operation) (or_none r.before)) image
      ∙ sym (undone_next all i here s.image inside at)
