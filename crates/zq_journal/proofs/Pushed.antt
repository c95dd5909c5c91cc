-- One record more at the end of a book's.

use Rattle.std.proofs.Common.{List, Option, [], ap, length, refl, sym, ℕ, ◌+◌, ◌++◌, ◌∙◌, ◌∷◌, ◌≡◌, ◌≤◌}
use Rattle.zq_model.specs.Books.{IsBook, recorded}
use Rattle.zq_model.specs.Limits.{TailLimits}
use Rattle.zq_journal.proofs.BoundedTails.{bounded_state}
use Rattle.zq_journal.proofs.Entered.{IsPutIn, entered_is, entered_stands, next_from, record_from}
use Rattle.zq_journal.proofs.Lasts.{longer_is}
use Rattle.zq_journal.proofs.Weights.{bytes_more, bytes_whole}
use Rattle.zq_journal.specs.Books.{LAST_STAMP, book_over}
use Rattle.zq_journal.specs.Records.{Change, IsRecordable, Record, bytes_kept_in, change_of, leaves_of, placed_in, records_in, whole}
use Rattle.zq_journal.specs.Standing.{IsStanding}
use Rattle.zq_journal.specs.declared.records.Record as code
use Rattle.zq_model.specs.Image.{image_after, place_of}
use Rattle.zq_shard.specs.Shard.{HeapImage}
use Rattle.std.specs.FinMap.{get}

-- the heap s, of these records over a base of the vector v, became t by a change, and r, which keeps
-- the change and what its member had, was pushed
module _ (s t : HeapImage) (v : List ℕ) (tail after : List code.Record) (r : code.Record) (change : Change) (limits : TailLimits) (handed : Option ℕ) (stamp count : ℕ)
    (is : IsStanding s v (records_in s v tail) limits handed stamp count) (what : whole s.heap s.heaps s.image.vector r.what ≡ change) (items : after ≡ tail ++ r ∷ [])
    (heap : t.heap ≡ s.heap) (heaps : t.heaps ≡ s.heaps) (rule : t.rule ≡ s.rule) (image : t.image ≡ image_after (placed_in change).operation s.image)
    (had : r.before ≡ get s.image.members (place_of (placed_in change).operation)) where
  abbrev full : Record
  full = record { stamp = r.stamp; what = change; before = r.before }

  put : IsPutIn s t full (placed_in change)
  put = record {
    op = refl;
    heap = heap;
    heaps = heaps;
    rule = rule;
    image = image;
    had = had;
    bounded = bounded_state s v (records_in s v tail) limits handed stamp count is;
  }

  longer : records_in t v after ≡ records_in s v tail ++ full ∷ []
  longer =
      longer_is s t v tail after r limits handed stamp count is.book heap heaps items
      ∙ ap (λ (q : Change). records_in s v tail ++ record { stamp = r.stamp; what = q; before = r.before } ∷ []) what

  pub pushed_stands : IsBook (recorded (book_over s v (leaves_of (records_in s v tail)) limits handed stamp count) r.stamp (change_of change)) → IsRecordable s.heap s.heaps (placed_in change) →
      r.stamp ≤ LAST_STAMP → count + 1 ≤ LAST_STAMP → IsStanding t v (records_in t v after) limits handed r.stamp (count + 1)
  pushed_stands book own low few =
      entered_stands s t v (records_in s v tail) (records_in t v after) full limits handed stamp count (next_from s t full (placed_in change) put) longer is book (record_from s t full (placed_in change) put own) low few

  pub pushed_is : book_over t v (leaves_of (records_in t v after)) limits handed r.stamp (count + 1) ≡ recorded (book_over s v (leaves_of (records_in s v tail)) limits handed stamp count) r.stamp (change_of change)
  pushed_is = entered_is s t v (records_in s v tail) (records_in t v after) full limits handed stamp count (next_from s t full (placed_in change) put) longer

  pub pushed_bytes : bytes_kept_in after ≡ bytes_kept_in tail + (length (placed_in change).operation.key + length (placed_in change).operation.member)
  pushed_bytes =
      ap bytes_kept_in items ∙ bytes_more tail r
      ∙ ap (λ n. bytes_kept_in tail + n) (sym (bytes_whole s.heap s.heaps s.image.vector r.what))
      ∙ ap (λ (q : Change). bytes_kept_in tail + (length (placed_in q).operation.key + length (placed_in q).operation.member)) what
