-- Laws of work on books, which the books in a list keep.

use Rattle.std.proofs.Common.{List, Some, [], ap, arith, length, refl, subst, suc, sym, zero, ℕ, ◌++◌, ◌<◌, ◌∙◌, ◌∷◌, ◌≡◌}
use Rattle.std.proofs.lemmas.List.{append-nil, append_assoc, map-append}
use Rattle.std.proofs.lemmas.Option.{same_Some, slice_get_within}
use Rattle.std.specs.Prelude.{slice_get}
use Rattle.zq_commands.specs.VecBooks.{AreRecordedOn, IsRecordedOn}
use Rattle.zq_model.specs.Books.{Book, Recorded, steps_of}
use Rattle.zq_model.specs.Reach.{IsWorked}

-- a book that is left was worked on with no records
pub recorded_itself : (b : Book) → IsRecordedOn b b
recorded_itself b = record {
  stamp = omega arith;
  records = [];
  tail = sym (append-nil b.tail);
  worked = λ start steps w. subst (λ s. IsWorked b start b.stamp s) (sym (append-nil steps)) w;
}

-- work after work is work
pub recorded_through : (x y z : Book) → IsRecordedOn x y → IsRecordedOn y z → IsRecordedOn x z
recorded_through x y z first second = record {
  stamp = omega (arith, first.stamp, second.stamp);
  records = first.records ++ second.records;
  tail = second.tail ∙ ap (λ t. t ++ second.records) first.tail ∙ append_assoc x.tail first.records second.records;
  worked = λ start steps w.
      let same : z.stamp ≡ y.stamp = omega (arith, w.stamp_is, first.stamp, second.stamp) in
      let half = first.worked start steps (subst (λ s. IsWorked x start s steps) same w) in
      let whole = second.worked start (steps ++ steps_of first.records) (subst (λ s. IsWorked y start s (steps ++ steps_of first.records)) (sym same) half) in
      let joined : (steps ++ steps_of first.records) ++ steps_of second.records
      ≡ steps ++ steps_of (first.records ++ second.records) =
      append_assoc steps (steps_of first.records) (steps_of second.records) ∙ ap (λ l. steps ++ l)
      (sym (map-append (λ r. Recorded r) first.records second.records)) in
      subst (λ s. IsWorked z start z.stamp s) joined whole;
}

-- and the same of books at their places
pub recorded_books_itself : (books : List Book) → AreRecordedOn books books
recorded_books_itself books = record {
  number = refl;
  each = λ place before later is then. subst (IsRecordedOn before) (same_Some before later (sym is ∙ then)) (recorded_itself before);
}

pub recorded_books_through : (x y z : List Book) → AreRecordedOn x y → AreRecordedOn y z →
    AreRecordedOn x z
recorded_books_through x y z first second = record {
  number = second.number ∙ first.number;
  each = λ place before later is then.
      let within : place < length y = omega (arith, slice_get_within x place before is, first.number) in
      let between = at y place within in
      recorded_through before between.0 later (first.each place before between.0 is between.1) (second.each place between.0 later between.1 then);
}
  where
    at : (xs : List Book) (i : ℕ) → i < length xs → (b : Book) × (slice_get xs i ≡ Some b)
    at [] i within = absurd (omega (arith, within))
    at (b ∷ xs) zero within = (b, refl)
    at (b ∷ xs) (suc i) within = at xs i (omega (arith, within))
