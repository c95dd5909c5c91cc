-- A replay at one of the records: the state t, where the records from the place i on come over its vector.

use Rattle.std.proofs.Common.{List, ap, arith, drop, get_or, length, subst, sym, take, ℕ, ◌+◌, ◌<◌, ◌∙◌, ◌≡◌}
use Rattle.std.specs.List.{All}
use Rattle.std.specs.Prelude.{true}
use Rattle.zq_model.specs.Books.{are_steps_over, replayed, steps_of}
use Rattle.zq_journal.proofs.Replays.{new_next, replayed_next}
use Rattle.zq_journal.proofs.Wholes.{length_over, rest_over}
use Rattle.zq_journal.specs.Records.{IsRecord, IsRecordable, Record, full_of, placed_in, records_in, vector_past, whole, written_in}
use Rattle.zq_journal.specs.declared.records.Record as code
use Rattle.zq_model.specs.Image.{Image, image_after}
use Rattle.zq_model.specs.Sets.{New, taken_of}
use Rattle.zq_shard.specs.Shard.{HeapImage}

module _ (s t : HeapImage) (tail : List code.Record) (i : ℕ) (r : code.Record) (below : i < length tail) (is : r ≡ get_or tail i r) (heap : t.heap ≡ s.heap) (heaps : t.heaps ≡ s.heaps)
    (image : t.image ≡ replayed (written_in (take i (records_in s s.image.vector tail))) s.image)
    (rest : records_in s t.image.vector (drop i tail) ≡ drop i (records_in s s.image.vector tail)) where
  abbrev all : List Record
  all = records_in s s.image.vector tail

  abbrev here : Record
  here = full_of s.heap s.heaps t.image.vector r

  both : (here ≡ get_or all i here) × (records_in s (vector_past t.image.vector here.what) (drop (i + 1) tail) ≡ drop (i + 1) all)
  both = rest_over s.heap s.heaps t.image.vector tail all i r (length_over s.heap s.heaps s.image.vector tail) below is rest

  inside : i < length all
  inside = omega (arith, below, length_over s.heap s.heaps s.image.vector tail)

  pub own_here : All (IsRecord s.heap s.heaps) all → IsRecordable t.heap t.heaps (placed_in (whole t.heap t.heaps t.image.vector r.what))
  own_here each =
      let full : IsRecord s.heap s.heaps here = rw both.0 (each i here inside) in
      subst (λ h. IsRecordable h t.heaps (placed_in (whole h t.heaps t.image.vector r.what))) (sym heap)
      (subst (λ K. IsRecordable s.heap K (placed_in (whole s.heap K t.image.vector r.what))) (sym heaps) full.op)

  pub new_here : are_steps_over s.heaps s.heap s.image (steps_of (written_in all)) ≡ true → taken_of t.image.vector (placed_in (whole t.heap t.heaps t.image.vector r.what)).operation ≡ New
  new_here over =
      ap (λ h. taken_of t.image.vector (placed_in (whole h t.heaps t.image.vector r.what)).operation) heap
      ∙ ap (λ K. taken_of t.image.vector (placed_in (whole s.heap K t.image.vector r.what)).operation) heaps
      ∙ ap (λ (a : Image). taken_of a.vector (placed_in here.what).operation) image
      ∙ new_next s.heaps s.heap all i here s.image inside both.0 over

  -- the operation, in the heap that is replayed over
  same_here : (u : HeapImage) → u.image ≡ image_after (placed_in (whole t.heap t.heaps t.image.vector r.what)).operation t.image → u.image ≡ image_after (placed_in here.what).operation t.image
  same_here u taken =
      taken
      ∙ ap (λ h. image_after (placed_in (whole h t.heaps t.image.vector r.what)).operation t.image) heap
      ∙ ap (λ K. image_after (placed_in (whole s.heap K t.image.vector r.what)).operation t.image) heaps

  pub image_here : (u : HeapImage) → u.image ≡ image_after (placed_in (whole t.heap t.heaps t.image.vector r.what)).operation t.image → u.image ≡ replayed (written_in (take (i + 1) all)) s.image
  image_here u taken =
      same_here u taken
      ∙ ap (image_after (placed_in here.what).operation) image
      ∙ sym (replayed_next all i here s.image inside both.0)

  pub rest_here : (u : HeapImage) → u.image ≡ image_after (placed_in (whole t.heap t.heaps t.image.vector r.what)).operation t.image →
      records_in s u.image.vector (drop (i + 1) tail) ≡ drop (i + 1) all
  rest_here u taken = ap (λ (a : Image). records_in s a.vector (drop (i + 1) tail)) (same_here u taken) ∙ both.1
