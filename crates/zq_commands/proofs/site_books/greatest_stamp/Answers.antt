use Rattle.std.proofs.Common.{List, Some, ap, arith, inl, inr, length, refl, sym, ℕ, ◌+◌, ◌<◌, ◌∙◌, ◌≡◌, ◌≤◌}
use Rattle.std.proofs.lemmas.Bool.{cases_eq}
use Rattle.std.proofs.lemmas.Option.{same_Some, slice_get_read, slice_get_within}
use Rattle.std.specs.Prelude.{slice_get}
use Rattle.zq_model.specs.Books.{Book}
use Rattle.zq_model.proofs.Read.{in_place}
use Rattle.zq_commands.proofs.site_books.greatest_stamp.Goals as goal
use Rattle.zq_commands.proofs.site_books.greatest_stamp.Goals.{else-greatest-stamp, then-greatest-stamp}

above_next : (books : List Book) (n old new : ℕ) (its : Book) → slice_get books n ≡ Some its → ((i : ℕ) (b : Book) → i < n → slice_get books i ≡ Some b → b.stamp ≤ old) →
    old ≤ new → its.stamp ≤ new → (i : ℕ) (b : Book) → i < n + 1 → slice_get books i ≡ Some b → b.stamp ≤ new
above_next books n old new its at above grown high i b low is = elim (cases_eq i n) [
  | inl same ↦
      let it : its ≡ b = same_Some its b (sym at ∙ ap (slice_get books) (sym same) ∙ is) in
      let stamp = ap (λ (c : Book). c.stamp) it in
      omega (arith, stamp, high)
  | inr other ↦
      let before : i < n = omega (arith, low, other) in
      let old_low = above i b before is in
      omega (arith, old_low, grown)
]

pub loop-place-init : goal.loop-place-init
loop-place-init c =
    let books = c.args.books.now in
    let its = c.index-books-0.result in
    let at = slice_get_read books (length books) 0 its refl c.requires c.index-books-0.is in
    record {
      bounded = c.stamp-greatest.ensures.bounded;
      above = λ place book low is.
          let none : place ≡ 0 = omega (arith, low) in
          let it : its ≡ book = same_Some its book (sym at ∙ ap (slice_get books) (sym none) ∙ is) in
          let stamp = ap (λ (c : Book). c.stamp) it in
          omega (arith, stamp, c.stamp-greatest.ensures.same);
      among = (its, in_place books 0 its at, sym c.stamp-greatest.ensures.same);
    }

pub loop-place-preserved : goal.loop-place-preserved
loop-place-preserved c =
    let books = c.args.books.now in
    let place = c.loop-place.place in
    let before = c.loop-place.invariant in
    let its = c.index-books-place.result in
    let inside : place < length books = omega (arith, c.loop-place-test.true) in
    let at = slice_get_read books (length books) place its refl inside c.index-books-place.is in
    let next = λ (new : ℕ). above_next books place c.loop-place.greatest new its at before.above in
    let stamp = c.stamp-stamp.ensures.same in
    elim c.if-greatest-stamp.branch [
      | then-greatest-stamp w ↦ record {
        bounded = omega (arith, w.greatest-is, c.stamp-stamp.ensures.bounded);
        above = next c.if-greatest-stamp.greatest (omega (arith, w.greatest-is, w.if-greatest-stamp)) (omega (arith, w.greatest-is, stamp));
        among = (its, in_place books place its at, sym stamp ∙ sym w.greatest-is);
      }
      | else-greatest-stamp w ↦ record {
        bounded = omega (arith, w.greatest-is, before.bounded);
        above = next c.if-greatest-stamp.greatest (omega (arith, w.greatest-is)) (omega (arith, w.greatest-is, w.if-greatest-stamp, stamp));
        among = (before.among.0, before.among.1, before.among.2 ∙ sym w.greatest-is);
      }
    ]

pub returns-clause-above : goal.returns-clause-above
returns-clause-above c = λ place book is.
    c.loop-place.invariant.above place book (omega (arith, slice_get_within c.args.books.now place book is, c.loop-place-test.false)) is
