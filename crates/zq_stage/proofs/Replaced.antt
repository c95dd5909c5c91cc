-- One row more in the place of what its member had.

use Rattle.std.proofs.Common.{List, None, Some, [], ap, false, length, map, refl, suc, subst, sym, take, zero, ℕ, ◌++◌, ◌∙◌, ◌∷◌, ◌≡◌}
use Rattle.std.proofs.lemmas.Option.{none-some, same_Some}
use Rattle.std.specs.FinMap.{get}
use Rattle.zq_model.proofs.BoundedImages.{bounded_row}
use Rattle.zq_model.proofs.RowLists.{rows_are}
use Rattle.zq_model.proofs.Sites.{length-by_site}
use Rattle.zq_model.proofs.SparseEntries.{additions_back}
use Rattle.zq_model.specs.Bounded.{IsBoundedAt, IsBoundedRow}
use Rattle.zq_model.specs.Image.{Entry, Image, is_bare}
use Rattle.zq_model.specs.Rows.{Row, additions_from, entry_with, place_in, row_of, rows_of}
use Rattle.zq_model.specs.Sets.{IsIn, SITES}
use Rattle.zq_shard.specs.Shard.{HeapImage, IsHeapImage, IsSameHeap, with_entry}
use Rattle.zq_stage.proofs.RowsOf.{row_got}
use Rattle.zq_stage.specs.Rows.{with_rows}

pub map_take : {X Y : Type 0} (f : X → Y) (n : ℕ) (xs : List X) → map f (take n xs) ≡ take n (map f xs)
map_take f zero xs = refl
map_take f (suc n) [] = refl
map_take f (suc n) (x ∷ xs) = ap (λ ys. f x ∷ ys) (map_take f n xs)

-- a row behind others is put in last
pub with_rows-last : (rows : List Row) (row : Row) (a : Image) → with_rows (rows ++ row ∷ []) a ≡ with_entry (place_in row) (entry_with row.additions) (with_rows rows a)
with_rows-last [] row a = refl
with_rows-last (first ∷ rows) row a = with_rows-last rows row (with_entry (place_in first) (entry_with first.additions) a)

-- the rows leave the vector
pub with_rows-vector : (rows : List Row) (a : Image) → (with_rows rows a).vector ≡ a.vector
with_rows-vector [] a = refl
with_rows-vector (row ∷ rows) a = with_rows-vector rows (with_entry (place_in row) (entry_with row.additions) a)

-- the entry that a piece has at the member of one of its rows
module _ (p : HeapImage) (kept : IsHeapImage p) (row : Row) (among : IsIn row (rows_of p.image)) where
  pub stands : get p.image.members (place_in row) ≡ None → ⊥
  stands none = none-some (entry_with row.additions) (sym none ∙ row_got p.image kept.bounded.entries row among)

  pub entry_is : (e : Entry) → get p.image.members (place_in row) ≡ Some e → e ≡ entry_with row.additions
  entry_is e got = same_Some e (entry_with row.additions) (sym got ∙ row_got p.image kept.bounded.entries row among)

  pub entry_wide : (e : Entry) → get p.image.members (place_in row) ≡ Some e → length e ≡ SITES
  entry_wide e got = ap length (entry_is e got) ∙ length-by_site _

  pub entry_full : (e : Entry) → get p.image.members (place_in row) ≡ Some e → is_bare e ≡ false
  entry_full e got = (kept.bounded.entries row.key row.member e got).1

  pub entry_bounded : (s : HeapImage) (e : Entry) → IsSameHeap s p → s.image.vector ≡ p.image.vector → get p.image.members (place_in row) ≡ Some e →
      IsBoundedRow s.heaps s.heap s.image.vector (row_of (place_in row, e))
  entry_bounded s e one vector got t x here =
      let listed : additions_from 0 e ≡ row.additions = ap (additions_from 0) (entry_is e got) ∙ additions_back row.additions ((rows_are p.image kept.bounded.entries).each row among).by_site in
      let bounded : IsBoundedAt p.heaps p.heap p.image.vector row.key row.member t x = bounded_row p.heaps p.heap p.image row kept.bounded among t x (subst (IsIn (t, x)) listed here) in
      subst (λ K. IsBoundedAt K s.heap s.image.vector row.key row.member t x) (sym one.heaps)
      (subst (λ h. IsBoundedAt p.heaps h s.image.vector row.key row.member t x) (sym one.heap)
      (subst (λ v. IsBoundedAt p.heaps p.heap v row.key row.member t x) (sym vector) bounded))
