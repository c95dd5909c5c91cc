-- Rows of one key that stand together make one key.

use Rattle.std.proofs.Common.{ap, append_assoc, arith, cond, drop, false, inl, inr, length, List, map, refl, suc, sym, zero, take, true, [], ℕ, ◌+◌, get_or, ◌++◌, ◌-◌, ◌<◌, ◌∙◌, ◌∷◌, ◌≡◌, ◌≢◌}
use Rattle.std.proofs.lemmas.Bool.{cases_Bool, cond-false, cond-true}
use Rattle.std.specs.Cmp.Lexicographic.{pointwise}
use Rattle.std.specs.List.{flat_map}
use Rattle.std.specs.Prelude.{nat_eq}
use Rattle.zq_merge.proofs.KeyLists.{is_same_key, other_key, same_key}
use Rattle.zq_merge.specs.Groups.{AreWritable, group_key, group_len}
use Rattle.zq_merge.specs.Keys.{KeyRows, by_key, member_of, with_row}
use Rattle.zq_model.proofs.Places.{bytes_same, same_bytes}
use Rattle.zq_model.specs.Rows.{Row}

-- the first key of rows is the first row's
data FirstKey (row : Row) (rows : List Row) : Type 0 where
  Is : (k : KeyRows) (keys : List KeyRows) → by_key (row ∷ rows) ≡ k ∷ keys → k.key ≡ row.key → FirstKey row rows

first_with : (row : Row) (rows : List Row) (keys : List KeyRows) → by_key rows ≡ keys → FirstKey row rows
first_with row rows [] is = Is (record { key = row.key; members = member_of row ∷ [] }) [] (ap (with_row row) is) refl
first_with row rows (k ∷ keys) is = elim (is_same_key row k) [
  | inl same ↦ Is (record { key = k.key; members = member_of row ∷ k.members }) keys (ap (with_row row) is ∙ same_key row k keys same) (sym same)
  | inr other ↦ Is (record { key = row.key; members = member_of row ∷ [] }) (k ∷ keys) (ap (with_row row) is ∙ other_key row k keys other) refl
]

first_key : (row : Row) (rows : List Row) → FirstKey row rows
first_key row rows = first_with row rows (by_key rows) refl

group_more : (key : List ℕ) (row : Row) (rows : List Row) → row.key ≡ key → group_len key (row ∷ rows) ≡ suc (group_len key rows)
group_more key row rows same =
    let one : 1 + group_len key rows ≡ suc (group_len key rows) = omega arith in
    cond-true (pointwise nat_eq row.key key) _ _ (bytes_same row.key key same) ∙ one

group_end : (key : List ℕ) (row : Row) (rows : List Row) → row.key ≢ key → group_len key (row ∷ rows) ≡ 0
group_end key row rows other = elim (cases_Bool (pointwise nat_eq row.key key)) [
  | inl equal ↦ absurd (other (same_bytes row.key key equal))
  | inr unequal ↦ cond-false (pointwise nat_eq row.key key) _ _ unequal
]

-- a row and those of its key behind it are one key, and the others the other keys
abbrev pub split_key : Row → List Row → List KeyRows
split_key row rows =
    record { key = row.key; members = member_of row ∷ map member_of (take (group_len row.key rows) rows) } ∷ by_key (drop (group_len row.key rows) rows)

alone : (row next : Row) (rows : List Row) → next.key ≢ row.key → FirstKey next rows → by_key (row ∷ (next ∷ rows)) ≡ split_key row (next ∷ rows)
alone row next rows other (Is k keys is keyed) =
    let none = group_end row.key next rows other in
    ap (with_row row) is ∙ (other_key row k keys (λ same. other (sym (same ∙ keyed)))
    ∙ (ap (λ ks. record { key = row.key; members = member_of row ∷ [] } ∷ ks) (sym is)
    ∙ ap (λ n. record { key = row.key; members = member_of row ∷ map member_of (take n (next ∷ rows)) } ∷ by_key (drop n (next ∷ rows))) (sym none)))

pub by_key_split : (row : Row) (rows : List Row) → by_key (row ∷ rows) ≡ split_key row rows
by_key_split row [] = refl
by_key_split row (next ∷ rows) = elim (is_same_key next (record { key = row.key; members = [] })) [
  | inl same ↦
      let more = group_more row.key next rows same in
      let n = group_len row.key rows in
      let lens : group_len next.key rows ≡ n = ap (λ key. group_len key rows) same in
      let k : KeyRows = record { key = row.key; members = member_of next ∷ map member_of (take n rows) } in
      let rest : by_key (next ∷ rows) ≡ k ∷ by_key (drop n rows) =
      by_key_split next rows ∙ (ap (λ m. record { key = next.key; members = member_of next ∷ map member_of (take m rows) } ∷ by_key (drop m rows)) lens
      ∙ ap (λ key. record { key = key; members = member_of next ∷ map member_of (take n rows) } ∷ by_key (drop n rows)) same) in
      ap (with_row row) rest ∙ (same_key row k (by_key (drop n rows)) refl
      ∙ ap (λ m. record { key = row.key; members = member_of row ∷ map member_of (take m (next ∷ rows)) } ∷ by_key (drop m (next ∷ rows))) (sym more))
  | inr other ↦ alone row next rows other (first_key next rows)
]

-- ---- rows that can be written

pub writable_drop : (n : ℕ) (rows : List Row) → AreWritable rows → AreWritable (drop n rows)
writable_drop zero rows each = each
writable_drop (suc n) [] each = each
writable_drop (suc n) (row ∷ rows) each = writable_drop n rows (λ r here. each r (inr here))

pub writable_take : (n : ℕ) (rows : List Row) → AreWritable rows → AreWritable (take n rows)
writable_take zero rows each row here = absurd here
writable_take (suc n) [] each row here = absurd here
writable_take (suc n) (r ∷ rows) each row (inl same) = each row (inl same)
writable_take (suc n) (r ∷ rows) each row (inr later) = writable_take n rows (λ s here. each s (inr here)) row later

-- ---- the rows of the key that begins at a place

first_end : (row first : Row) (rows : List Row) (n : ℕ) → row ≡ first → n ≡ group_len row.key rows → by_key (first ∷ rows) ≡ group_key (take (1 + n) (first ∷ rows)) ∷ by_key (drop n rows)
first_end row first rows n is size =
    let lens : group_len first.key rows ≡ n = sym (size ∙ ap (λ r. group_len r.key rows) is) in
    let one : 1 + n ≡ suc n = omega arith in
    by_key_split first rows ∙ (ap (λ m. record { key = first.key; members = member_of first ∷ map member_of (take m rows) } ∷ by_key (drop m rows)) lens
    ∙ ap (λ m. group_key (take m (first ∷ rows)) ∷ by_key (drop n rows)) (sym one))

end_at_place : (rows : List Row) (place n : ℕ) (row : Row) → place < length rows → row ≡ get_or rows place row → n ≡ group_len row.key (drop (place + 1) rows) → by_key (drop place rows) ≡ group_key (take (1 + n) (drop place rows)) ∷ by_key (drop (place + 1 + n) rows)
end_at_place [] place n row below is size = absurd (omega arith)
end_at_place (first ∷ rows) zero n row below is size =
    let past : 0 + 1 + n ≡ suc n = omega arith in
    first_end row first rows n is size ∙ ap (λ m. group_key (take (1 + n) (first ∷ rows)) ∷ by_key (drop m (first ∷ rows))) (sym past)
end_at_place (first ∷ rows) (suc place) n row below is size =
    let next : suc place + 1 ≡ suc (place + 1) = omega arith in
    let past : suc place + 1 + n ≡ suc (place + 1 + n) = omega arith in
    end_at_place rows place n row (omega arith) is (size ∙ ap (λ m. group_len row.key (drop m (first ∷ rows))) next)
    ∙ ap (λ m. group_key (take (1 + n) (drop place rows)) ∷ by_key (drop m (first ∷ rows))) (sym past)

pub key_ends : (rows : List Row) (place n end : ℕ) (row : Row) → place < length rows → row ≡ get_or rows place row → n ≡ group_len row.key (drop (place + 1) rows) → end ≡ place + 1 + n → by_key (drop place rows) ≡ group_key (take (end - place) (drop place rows)) ∷ by_key (drop end rows)
key_ends rows place n end row below is size at =
    let width : 1 + n ≡ end - place = omega arith in
    end_at_place rows place n row below is size ∙ (ap (λ m. group_key (take m (drop place rows)) ∷ by_key (drop (place + 1 + n) rows)) width ∙ ap (λ m. group_key (take (end - place) (drop place rows)) ∷ by_key (drop m rows)) (sym at))

-- the group ends at a row of another key
pub group_ends : (key : List ℕ) (rows : List Row) (place : ℕ) (row : Row) → place < length rows → row ≡ get_or rows place row → row.key ≢ key → group_len key (drop place rows) ≡ 0
group_ends key [] place row below is other = absurd (omega arith)
group_ends key (first ∷ rows) zero row below is other = group_end key first rows (λ same. other (ap (λ r. r.key) is ∙ same))
group_ends key (first ∷ rows) (suc place) row below is other = group_ends key rows place row (omega arith) is other

-- it goes on with a row of the key
pub group_goes_on : (key : List ℕ) (rows : List Row) (place : ℕ) (row : Row) → place < length rows → row ≡ get_or rows place row → row.key ≡ key → group_len key (drop place rows) ≡ suc (group_len key (drop (place + 1) rows))
group_goes_on key [] place row below is same = absurd (omega arith)
group_goes_on key (first ∷ rows) zero row below is same = group_more key first rows (sym (ap (λ r. r.key) is) ∙ same)
group_goes_on key (first ∷ rows) (suc place) row below is same =
    let next : suc place + 1 ≡ suc (place + 1) = omega arith in
    group_goes_on key rows place row (omega arith) is same ∙ ap (λ m. suc (group_len key (drop m (first ∷ rows)))) (sym next)

-- one key more is written
pub key_written : (spell : KeyRows → List ℕ) (keys : List KeyRows) (k written : KeyRows) (others : List KeyRows) (out new all : List ℕ) → keys ≡ k ∷ others → written ≡ k → new ≡ out ++ spell written → out ++ flat_map spell keys ≡ all → new ++ flat_map spell others ≡ all
key_written spell keys k written others out new all split same more had =
    ap (λ b. b ++ flat_map spell others) (more ∙ ap (λ x. out ++ spell x) same) ∙ (append_assoc out (spell k) (flat_map spell others) ∙ (ap (λ ks. out ++ flat_map spell ks) (sym split) ∙ had))
