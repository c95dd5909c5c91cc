-- Books of which one was worked on, at its place.

use Rattle.std.proofs.Common.{Bool, List, Some, ap, false, inl, inr, refl, set, subst, sym, true, ℕ, ◌∙◌, ◌≡◌, ◌||◌, ◌⊎◌}
use Rattle.std.proofs.lemmas.Bool.{cases_eq, eq-eqb, eqb-true}
use Rattle.std.proofs.lemmas.List.{length-set}
use Rattle.std.proofs.lemmas.Option.{same_Some, slice_get_within}
use Rattle.std.specs.Prelude.{slice_get, slice_index}
use Rattle.zq_commands.specs.VecBooks.{AreRecordedOn, IsRecordedOn}
use Rattle.zq_commands.specs.RecordedBooks.{recorded_itself}
use Rattle.zq_model.specs.Books.{Book}
use Rattle.zq_journal.specs.Books.{LAST_STAMP}
use Rattle.zq_model.specs.Sets.{LAST}
use Rattle.zq_semantics.specs.Run.{is_worn}
use Rattle.zq_posheap.proofs.Lists.{slice_get-set_other, slice_get-set_same}

-- one of the books was worked on, and the others were left
pub recorded_at : (books : List Book) (place : ℕ) (old new : Book) → slice_get books place ≡ Some old → IsRecordedOn old new → AreRecordedOn books (set books place new)
recorded_at books place old new is worked = record {
  number = length-set books place new;
  each = λ i before later was then. elim (cases_eq i place) [
    | inl same ↦
        let first : before ≡ old = same_Some before old (sym was ∙ ap (slice_get books) same ∙ is) in
        let second : new ≡ later = same_Some new later (sym (slice_get-set_same books place new (slice_get_within books place old is)) ∙ ap (slice_get (set books place new)) (sym same) ∙ then) in
        subst (λ b. IsRecordedOn b later) (sym first) (subst (IsRecordedOn old) second worked)
    | inr other ↦
        subst (IsRecordedOn before) (same_Some before later (sym was ∙ sym (slice_get-set_other books place i new other) ∙ then)) (recorded_itself before)
  ];
}

-- ---- a number at its last value

or_from : (a b : Bool) → (a || b) ≡ true → (a ≡ true) ⊎ (b ≡ true)
or_from true b is = inl refl
or_from false b is = inr is

or_of : (a b : Bool) → (a ≡ true) ⊎ (b ≡ true) → (a || b) ≡ true
or_of true b is = refl
or_of false b (inl is) = absurd (cc)
or_of false b (inr is) = is

-- the site's counter in a book, or the book's count, is at its last value
abbrev AreLast : ℕ → Book → Type 0
AreLast site b = (slice_index b.state.vector site ≡ LAST) ⊎ (b.count ≡ LAST_STAMP)

-- which is what the test of a command's cut says
pub worn_from : (site : ℕ) (b : Book) → is_worn site b ≡ true → AreLast site b
unfolding LAST_STAMP
worn_from site b worn = elim (or_from _ _ worn) [
  | inl is ↦ inl (eqb-true _ _ is)
  | inr is ↦ inr (eqb-true _ _ is)
]

pub worn_of : (site : ℕ) (b : Book) → AreLast site b → is_worn site b ≡ true
unfolding LAST_STAMP
worn_of site b (inl is) = or_of _ _ (inl (eq-eqb _ _ is))
worn_of site b (inr is) = or_of _ _ (inr (eq-eqb _ _ is))
