-- The image of a world's operations has no more members than there are dots in a heap.

use Rattle.std.proofs.Common.{Less, List, [], arith, ap, eqb, false, inl, inr, length, refl, subst, sym, ℕ, ◌*◌, ◌+◌, ◌<◌, ◌^◌, ◌≤◌, ◌∙◌, ◌∷◌, ◌≡◌, ◌≢◌}
use Rattle.std.proofs.lemmas.Bool.{eqb-true, ne_eqb}
use Rattle.std.proofs.lemmas.Cmp.{tied_itself}
use Rattle.std.proofs.lemmas.Map.Steps.{length-le_from_distinct_below}
use Rattle.std.specs.List.{AllByRecursion, IsDistinct}
use Rattle.zq_model.proofs.Entries.{set_entries}
use Rattle.zq_model.proofs.Kept.{kept_from}
use Rattle.zq_model.proofs.Maps.{place_total}
use Rattle.zq_model.proofs.Membership.{any_some}
use Rattle.zq_model.proofs.Places.{is_on_parts, is_put_of_parts}
use Rattle.zq_model.proofs.RowLists.{addition_in_row, rows_are}
use Rattle.zq_model.specs.Image.{Place, image_of, place_cmp, place_of}
use Rattle.zq_model.specs.Operation.{Operation}
use Rattle.zq_model.specs.Rows.{AreInOrder, OfSite, Row, place_in, rows_of}
use Rattle.zq_model.specs.Sets.{IsIn, IsOperation, IsWorld, LAST, SITES}

-- the operation is of the heap and put an addition of the row
record IsOf (S : List Operation) (h : ℕ) (row : Row) (p : Operation) : Type 0 where
  there : IsIn p S
  heap : p.heap ≡ h
  place : place_of p ≡ place_in row

some_addition : (additions : List OfSite) → additions ≢ [] → (a : OfSite) × IsIn a additions
some_addition [] some = absurd (some refl)
some_addition (a ∷ more) some = (a, inl refl)

put_of : (S : List Operation) (h : ℕ) (row : Row) → IsIn row (rows_of (image_of S h)) → (p : Operation) × IsOf S h row p
put_of S h row i =
    let are = rows_are (image_of S h) (set_entries S h) in
    let first = some_addition row.additions (are.each row i).some in
    let has = (addition_in_row (image_of S h) (set_entries S h) row.key row.member first.0.0 first.0.1).1 (row, i, refl, refl, first.1) in
    let put = kept_from S h row.key row.member first.0.0 first.0.1 has in
    let parts = is_on_parts h row.key row.member put.0 (is_put_of_parts h row.key row.member first.0.0 put.0 put.1.put).0 in
    (put.0, record { there = put.1.here; heap = parts.0; place = λ j. (parts.1 j, parts.2 j) })

-- a number for each dot
abbrev code : Operation → ℕ
code p = p.site * 281474976710656 + p.n

code_below : (K : ℕ) (p : Operation) → IsOperation K p → code p < 18014398509481984
unfolding LAST SITES
code_below K p is =
    let site : p.site < 64 = is.site in
    let n : p.n ≤ 281474976710655 = is.bounded in
    omega arith

code_one : (K : ℕ) (S : List Operation) (p q : Operation) → IsWorld K S → IsIn p S → IsIn q S → p.heap ≡ q.heap → code p ≡ code q → p ≡ q
unfolding LAST
code_one K S p q world i j heap same =
    let first : p.n ≤ 281474976710655 = (world.each p i).bounded in
    let second : q.n ≤ 281474976710655 = (world.each q j).bounded in
    let site : p.site ≡ q.site = omega arith in
    let n : p.n ≡ q.n = omega arith in
    world.one p q i j heap site n

not_below_itself : (q : Place) → place_cmp q q ≡ Less → ⊥
not_below_itself q below = let tied = tied_itself place_total q in cc

-- the numbers of the rows' operations, no two of them the same
record AreCodes (S : List Operation) (h : ℕ) (rows : List Row) (codes : List ℕ) : Type 0 where
  size : length codes ≡ length rows
  distinct : IsDistinct eqb codes
  each : (c : ℕ) → IsIn c codes → (row : Row) × IsIn row rows × ((p : Operation) × IsOf S h row p × (c ≡ code p))

apart : (c : ℕ) (codes : List ℕ) → ((d : ℕ) → IsIn d codes → c ≡ d → ⊥) → AllByRecursion (λ y. eqb c y ≡ false) codes
apart c [] other = tt
apart c (d ∷ codes) other = (ne_eqb c d (other d (inl refl)), apart c codes (λ e i. other e (inr i)))

codes_none : (S : List Operation) (h : ℕ) → AreCodes S h [] []
unfolding IsDistinct
codes_none S h = record { size = refl; distinct = tt; each = λ c i. absurd i }

codes_more : (K : ℕ) (S : List Operation) (h : ℕ) (row : Row) (rows : List Row) (p : Operation) (codes : List ℕ) → IsWorld K S → IsOf S h row p
    → ((later : Row) → IsIn later rows → place_cmp (place_in row) (place_in later) ≡ Less) → AreCodes S h rows codes → AreCodes S h (row ∷ rows) (code p ∷ codes)
unfolding IsDistinct
codes_more K S h row rows p codes world is below are = record {
  size = omega (arith, are.size);
  distinct = (
    apart (code p) codes (λ c i same.
        let e = are.each c i in
        let one = code_one K S p e.2.0 world is.there e.2.1.there (is.heap ∙ sym e.2.1.heap) (same ∙ e.2.2) in
        let place : place_in row ≡ place_in e.0 = sym is.place ∙ (ap place_of one ∙ e.2.1.place) in
        not_below_itself (place_in row) (subst (λ q. place_cmp (place_in row) q ≡ Less) (sym place) (below e.0 e.1))),
    are.distinct,
  );
  each = λ c i. elim i [
    | inl same ↦ (row, inl refl, (p, is, sym same))
    | inr later ↦ (let e = are.each c later in (e.0, inr e.1, e.2))
  ];
}

codes_of : (K : ℕ) (S : List Operation) (h : ℕ) → IsWorld K S → (rows : List Row) → ((row : Row) → IsIn row rows → IsIn row (rows_of (image_of S h))) → AreInOrder rows → (codes : List ℕ) × AreCodes S h rows codes
codes_of K S h world [] there order = ([], codes_none S h)
codes_of K S h world (row ∷ rows) there order =
    let put = put_of S h row (there row (inl refl)) in
    let more = codes_of K S h world rows (λ r i. there r (inr i)) order.1 in
    (code put.0 ∷ more.0, codes_more K S h row rows put.0 more.0 world put.1 order.0 more.1)

pub few_rows : (K : ℕ) (S : List Operation) (h : ℕ) → IsWorld K S → length (rows_of (image_of S h)) < 2 ^ 64
few_rows K S h world =
    let all = codes_of K S h world (rows_of (image_of S h)) (λ row i. i) (rows_are (image_of S h) (set_entries S h)).in_order in
    let few = length-le_from_distinct_below all.0 18014398509481984 all.1.distinct (λ q has.
    let found = any_some (eqb q) all.0 has in
    let e = all.1.each found.0 found.1 in
    let low = code_below K e.2.0 (world.each e.2.0 e.2.1.there) in
    let same = eqb-true q found.0 found.2 in
    omega (arith, low, same, e.2.2)) in
    omega (arith, few, all.1.size)
