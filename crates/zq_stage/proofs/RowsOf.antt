-- The rows of an image, and what it has at a member.

use Rattle.std.proofs.Common.{Bool, Less, List, Some, [], ap, cond, false, inl, inr, is_some, map, refl, subst, sym, true, ◌++◌, ◌||◌, ◌∙◌, ◌∷◌, ◌≡◌}
use Rattle.std.proofs.lemmas.Bool.{cond-false, cond-true, false_from_ne_true}
use Rattle.std.proofs.lemmas.Cmp.{tied_itself}
use Rattle.std.proofs.lemmas.List.Folds.{list_any-append}
use Rattle.std.specs.FinMap.{find, get, get-from_entries}
use Rattle.std.specs.Ordering.{eq_by_cmp}
use Rattle.zq_model.proofs.Maps.{key_same, place_exact, place_total, same_key}
use Rattle.zq_model.proofs.RowLists.{rows_are, rows_back}
use Rattle.zq_model.specs.Image.{Image, Place, place_cmp}
use Rattle.zq_model.specs.Rows.{AreEntries, AreInOrder, Row, entry_with, pair_of, place_in, rows_of}
use Rattle.zq_model.specs.Sets.{IsIn}
use Rattle.zq_stage.specs.Rows.{has_row}

-- an image has at a member what its rows have
pub get_in_rows : (a : Image) → AreEntries a.members → (q : Place) → get a.members q ≡ find place_cmp q (map pair_of (rows_of a))
get_in_rows a are q =
    ap (λ (b : Image). get b.members q) (sym (rows_back a are)) ∙ get-from_entries place_total (map pair_of (rows_of a)) q

-- a row is of the member where the member is found
find_has : (rows : List Row) (q : Place) → has_row rows q ≡ is_some (find place_cmp q (map pair_of rows))
find_has [] q = refl
find_has (row ∷ rows) q =
    elim (eq_by_cmp place_cmp q (place_in row)) as (λ b. (b || has_row rows q) ≡ is_some (cond b (Some (pair_of row).1) (find place_cmp q (map pair_of rows)))) [
      | true ↦ refl
      | false ↦ find_has rows q
    ]

pub has_in_rows : (a : Image) → AreEntries a.members → (q : Place) → has_row (rows_of a) q ≡ is_some (get a.members q)
has_in_rows a are q = find_has (rows_of a) q ∙ ap is_some (sym (get_in_rows a are q))

not_below_itself : (q : Place) → place_cmp q q ≡ Less → ⊥
not_below_itself q below = let tied = tied_itself place_total q in cc

find_row : (rows : List Row) → AreInOrder rows → (row : Row) → IsIn row rows → find place_cmp (place_in row) (map pair_of rows) ≡ Some (entry_with row.additions)
find_row [] order row i = absurd i
find_row (r ∷ rows) order row (inl same) =
    subst (λ x. find place_cmp (place_in x) (map pair_of (r ∷ rows)) ≡ Some (entry_with x.additions)) same
    (cond-true (eq_by_cmp place_cmp (place_in r) (place_in r)) _ _ (key_same place_total (place_in r) (place_in r) refl))
find_row (r ∷ rows) order row (inr later) =
    cond-false (eq_by_cmp place_cmp (place_in row) (place_in r)) _ _ (false_from_ne_true _ (λ tied.
    not_below_itself (place_in r) (subst (λ q. place_cmp (place_in r) q ≡ Less) (same_key place_exact (place_in row) (place_in r) tied) (order.0 row later))))
    ∙ find_row rows order.1 row later

-- an image has the entry of each of its rows
pub row_got : (a : Image) → AreEntries a.members → (row : Row) → IsIn row (rows_of a) → get a.members (place_in row) ≡ Some (entry_with row.additions)
row_got a are row i = get_in_rows a are (place_in row) ∙ find_row (rows_of a) (rows_are a are).in_order row i

-- a row may stand before or behind others
pub has_row_moved : (more : List Row) (row : Row) (rows : List Row) (q : Place) → has_row (more ++ row ∷ rows) q ≡ has_row (row ∷ more ++ rows) q
has_row_moved more row rows q =
    let at : Row → Bool = λ r. eq_by_cmp place_cmp q (place_in r) in
    list_any-append at more (row ∷ rows)
    ∙ turned (has_row more q) (at row) (has_row rows q)
    ∙ ap (λ b. at row || b) (sym (list_any-append at more rows))
  where
    turned : (x y z : Bool) → (x || (y || z)) ≡ (y || (x || z))
    turned true true z = refl
    turned true false z = refl
    turned false y z = refl
