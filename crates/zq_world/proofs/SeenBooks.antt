-- The stamps of books, and books that were looked at.

use Rattle.std.proofs.Common.{List, Some, [], ap, arith, inl, inr, subst, sym, ℕ, ◌+◌, ◌<◌, ◌∙◌, ◌∷◌, ◌≡◌, ◌≤◌}
use Rattle.std.proofs.lemmas.Bool.{cases_eq}
use Rattle.std.proofs.lemmas.Option.{same_Some}
use Rattle.std.specs.Prelude.{slice_get}
use Rattle.zq_model.specs.Books.{Book}
use Rattle.zq_model.specs.Sets.{IsIn}
use Rattle.zq_semantics.specs.Books.{greatest_stamp}

pub stamp_above : (books : List Book) (b : Book) → IsIn b books → b.stamp ≤ greatest_stamp books
stamp_above [] b here = absurd here
stamp_above (c ∷ books) b (inl same) = let is = ap (λ (d : Book). d.stamp) same in omega (arith, is)
stamp_above (c ∷ books) b (inr there) = let rest = stamp_above books b there in omega (arith, rest)

-- what was seen of each book up to a place, and of the next
pub seen_next : (P : Book → Type 0) (books : List Book) (n : ℕ) (its : Book) → slice_get books n ≡ Some its → P its → ((i : ℕ) (b : Book) → i < n → slice_get books i ≡ Some b → P b) →
    (i : ℕ) (b : Book) → i < n + 1 → slice_get books i ≡ Some b → P b
seen_next P books n its at is seen i b low here = elim (cases_eq i n) [
  | inl same ↦ subst P (same_Some its b (sym at ∙ ap (slice_get books) (sym same) ∙ here)) is
  | inr other ↦ seen i b (omega (arith, low, other)) here
]
