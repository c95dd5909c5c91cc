-- The oldest records dropped: what that makes of a book whose tail can be undone.

use Rattle.std.proofs.Common.{Option, List, ap, drop, map, refl, subst, sym, take, ℕ, ◌∙◌, ◌≡◌}
use Rattle.std.proofs.lemmas.List.{drop-map, take-map}
use Rattle.std.proofs.lemmas.List.Elements.{All-drop}
use Rattle.zq_model.specs.Limits.{TailLimits}
use Rattle.zq_model.proofs.KeptBooks.{after_replay, kept_cut, undone_cut}
use Rattle.zq_model.specs.Books.{IsBook, advanced, replayed}
use Rattle.zq_model.specs.Undoing.{AreKept, Leaf, after_leaves, undone}
use Rattle.zq_journal.proofs.BoundedTails.{bounded_after}
use Rattle.zq_journal.proofs.Entered.{state_after}
use Rattle.zq_journal.specs.Books.{book_over}
use Rattle.zq_journal.specs.Records.{IsRecord, Record, leaf_of, leaves_of, written_in}
use Rattle.zq_journal.specs.Standing.{IsStanding}
use Rattle.zq_model.specs.Bounded.{IsBounded}
use Rattle.zq_model.specs.Image.{Image}
use Rattle.zq_shard.specs.Shard.{HeapImage}

-- w is the vector of the base after the n oldest records
abbrev pub IsMoved : ℕ → HeapImage → List ℕ → List ℕ → List Record → Type 0
IsMoved n s v w records = w ≡ (replayed (written_in (take n records)) (record { vector = v; members = undone (leaves_of records) s.image.members })).vector

module _ (n : ℕ) (s : HeapImage) (v w : List ℕ) (records after : List Record) (limits : TailLimits) (handed : Option ℕ) (stamp count : ℕ) (old : IsStanding s v records limits handed stamp count) (moved : IsMoved n s v w records) (left : after ≡ drop n records) where
  a : Image
  a = record { vector = v; members = undone (leaves_of records) s.image.members }

  left_leaves : leaves_of after ≡ drop n (leaves_of records)
  left_leaves = ap leaves_of left ∙ sym (drop-map leaf_of n records)

  replay_taken : after_leaves (take n (leaves_of records)) a ≡ replayed (written_in (take n records)) a
  unfolding a
  replay_taken = after_replay (take n (leaves_of records)) a ∙ ap (λ ls. replayed (map (λ (l : Leaf). l.written) ls) a) (take-map leaf_of n records)

  -- the base of the book over the records that are left is the image after those that are dropped
  base_moved : record { vector = w; members = undone (leaves_of after) s.image.members } ≡ after_leaves (take n (leaves_of records)) a
  unfolding a
  base_moved =
      let vector : w ≡ (after_leaves (take n (leaves_of records)) a).vector = moved ∙ ap (λ (b : Image). b.vector) (sym replay_taken) in
      let members : undone (leaves_of after) s.image.members ≡ (after_leaves (take n (leaves_of records)) a).members =
      ap (λ ls. undone ls s.image.members) left_leaves
      ∙ ap (λ (b : Image). undone (drop n (leaves_of records)) b.members) (sym (state_after s v (leaves_of records) limits handed stamp count old.book))
      ∙ undone_cut n (leaves_of records) a old.kept in
      rw (vector, members) refl

  -- the book after a cut
  pub cut_is : book_over s w (leaves_of after) limits handed stamp count ≡ advanced n (book_over s v (leaves_of records) limits handed stamp count)
  unfolding a
  cut_is =
      let base : record { vector = w; members = undone (leaves_of after) s.image.members } ≡ replayed (take n (written_in records)) a =
      base_moved ∙ after_replay (take n (leaves_of records)) a ∙ ap (λ tail. replayed tail a) (sym (take-map (λ (l : Leaf). l.written) n (leaves_of records))) in
      let tail : written_in after ≡ drop n (written_in records) = ap (map (λ (l : Leaf). l.written)) left_leaves ∙ sym (drop-map (λ (l : Leaf). l.written) n (leaves_of records)) in
      rw (base, tail) refl

  -- a cut keeps what a book keeps
  pub cut_stands : IsBook (advanced n (book_over s v (leaves_of records) limits handed stamp count)) → IsStanding s w after limits handed stamp count
  unfolding a
  cut_stands book = record {
    book = subst IsBook (sym cut_is) book;
    kept =
        subst (λ ls. AreKept ls (record { vector = w; members = undone (leaves_of after) s.image.members })) (sym left_leaves)
        (subst (AreKept (drop n (leaves_of records))) (sym base_moved) (kept_cut n (leaves_of records) a old.kept));
    bounded = subst (IsBounded s.heaps s.heap) (sym base_moved) (bounded_after n s.heap s.heaps records a old.each old.book.steps old.bounded);
    each = rw left (All-drop (IsRecord s.heap s.heaps) n records old.each);
    last_stamp = old.last_stamp;
    last_count = old.last_count;
  }
