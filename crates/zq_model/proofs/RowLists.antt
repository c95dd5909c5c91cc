-- The rows of an image and the image of rows: either gives the other back.

use Rattle.std.proofs.Common.{Less, List, None, Some, T, [], ap, ap₂, arith, cond, false, inl, inr, length, map, refl, subst, sym, true, unwrap_or, ℕ, ◌∙◌, ◌∷◌, ◌≡◌, ◌↔◌}
use Rattle.std.proofs.lemmas.Bool.{and_from, and_parts, cond-false, cond-true, false_from_ne_true}
use Rattle.std.proofs.lemmas.Cmp.{tied_itself}
use Rattle.std.proofs.lemmas.Option.{none-some, same_Some}
use Rattle.std.specs.FinMap.{entries, entries_sorted, find, from_entries, get, get-entries, get-from_entries, is_sorted, same_map}
use Rattle.std.specs.FinMap.Entries.{below_all, same_entries}
use Rattle.std.specs.Ordering.{eq_by_cmp, is_lt}
use Rattle.zq_model.proofs.Entries.{addition_at-no_additions}
use Rattle.zq_model.proofs.Listing.{in_map_from}
use Rattle.zq_model.proofs.Maps.{in_map, key_same, place_exact, place_total, same_key}
use Rattle.zq_model.proofs.Rising.{is_true, less_from}
use Rattle.zq_model.proofs.Sites.{length-by_site}
use Rattle.zq_model.proofs.SparseEntries.{addition_listed, additions_back, additions_by_site, entry_back, entry_some, found_at, found_in, some_listed}
use Rattle.zq_model.specs.Entry.{Addition}
use Rattle.zq_model.specs.Image.{Entry, Image, Members, Place, addition_at, is_bare, no_additions, place_cmp}
use Rattle.zq_model.specs.Joining.{HasAddition}
use Rattle.zq_model.specs.Rows.{AreEntries, AreInOrder, AreRows, IsRow, Row, additions_from, image_of_rows, pair_of, place_in, row_of, rows_of}
use Rattle.zq_model.specs.Sets.{IsIn, SITES}

-- ---- sorted pairs

below_later : (q : Place) (es : List (Place × Entry)) → below_all place_cmp q es ≡ true → (e : Place × Entry) → IsIn e es → place_cmp q e.0 ≡ Less
below_later q [] below e i = absurd i
below_later q (x ∷ es) below e i =
    let parts = and_parts (is_lt (place_cmp q x.0)) (below_all place_cmp q es) below in
    elim i [
      | inl same ↦ less_from (place_cmp q e.0) (subst (λ z. is_lt (place_cmp q z.0) ≡ true) same parts.0)
      | inr later ↦ below_later q es parts.1 e later
    ]

not_below_itself : (q : Place) → place_cmp q q ≡ Less → ⊥
not_below_itself q below = let tied = tied_itself place_total q in cc

pair_found : (es : List (Place × Entry)) → is_sorted place_cmp es ≡ true → (e : Place × Entry) → IsIn e es → find place_cmp e.0 es ≡ Some e.1
pair_found [] sorted e i = absurd i
pair_found (x ∷ es) sorted e i =
    let parts = and_parts (below_all place_cmp x.0 es) (is_sorted place_cmp es) sorted in
    elim i [
      | inl same ↦ subst (λ z. find place_cmp z.0 (x ∷ es) ≡ Some z.1) same (cond-true (eq_by_cmp place_cmp x.0 x.0) _ _ (key_same place_total x.0 x.0 refl))
      | inr later ↦
          let below : place_cmp x.0 e.0 ≡ Less = below_later x.0 es parts.0 e later in
          cond-false (eq_by_cmp place_cmp e.0 x.0) _ _ (false_from_ne_true _ (λ tied.
          not_below_itself x.0 (subst (λ z. place_cmp x.0 z ≡ Less) (same_key place_exact e.0 x.0 tied) below)))
          ∙ pair_found es parts.1 e later
    ]

pair_there : (es : List (Place × Entry)) (q : Place) (e : Entry) → find place_cmp q es ≡ Some e → IsIn (q, e) es
pair_there [] q e is = absurd (none-some e is)
pair_there (x ∷ es) q e is =
    elim (eq_by_cmp place_cmp q x.0) as (λ b. eq_by_cmp place_cmp q x.0 ≡ b → cond b (Some x.1) (find place_cmp q es) ≡ Some e → IsIn (q, e) (x ∷ es)) [
      | true ↦ λ tied f. inl (λ i. (sym (same_key place_exact q x.0 tied) i, same_Some x.1 e f i))
      | false ↦ λ _ f. inr (pair_there es q e f)
    ] refl is

module _ (members : Members) where
  -- a map has what it lists, and lists what it has
  entry_got : (e : Place × Entry) → IsIn e (entries members) → get members e.0 ≡ Some e.1
  entry_got e i = get-entries members e.0 ∙ pair_found (entries members) (is_true _ (entries_sorted members)) e i

  entry_there : (q : Place) (e : Entry) → get members q ≡ Some e → IsIn (q, e) (entries members)
  entry_there q e is = pair_there (entries members) q e (sym (get-entries members q) ∙ is)

  members_back : from_entries (entries members) ≡ members
  members_back = same_map place_total place_exact _ members (λ q. get-from_entries place_total (entries members) q ∙ sym (get-entries members q))

entries_back : (es : List (Place × Entry)) → is_sorted place_cmp es ≡ true → entries (from_entries {R = place_cmp} es) ≡ es
entries_back es sorted =
    same_entries place_cmp place_total place_exact (entries (from_entries {R = place_cmp} es)) es (entries_sorted (from_entries {R = place_cmp} es)) (subst T (sym sorted) tt)
    (λ q. sym (get-entries (from_entries {R = place_cmp} es) q) ∙ get-from_entries place_total es q)

map_back : {X Y : Type 0} (f : X → Y) (g : Y → X) (xs : List X) → ((x : X) → IsIn x xs → g (f x) ≡ x) → map g (map f xs) ≡ xs
map_back f g [] back = refl
map_back f g (x ∷ xs) back = ap₂ (λ y ys. y ∷ ys) (back x (inl refl)) (map_back f g xs (λ y i. back y (inr i)))

-- ---- from an image to rows

rows_in_order : (es : List (Place × Entry)) → is_sorted place_cmp es ≡ true → AreInOrder (map row_of es)
rows_in_order [] sorted = tt
rows_in_order (e ∷ es) sorted =
    let parts = and_parts (below_all place_cmp e.0 es) (is_sorted place_cmp es) sorted in (
      λ later i. let x = in_map_from row_of later es i in subst (λ r. place_cmp e.0 (place_in r) ≡ Less) x.2 (below_later e.0 es parts.0 x.0 x.1),
      rows_in_order es parts.1,
    )

module _ (a : Image) (are : AreEntries a.members) where
  row_is : (e : Place × Entry) → IsIn e (entries a.members) → IsRow (row_of e)
  row_is e i =
      let whole : (length e.1 ≡ SITES) × (is_bare e.1 ≡ false) = are e.0.0 e.0.1 e.1 (entry_got a.members e i) in
      record { some = some_listed 0 e.1 whole.1; by_site = additions_by_site 0 SITES e.1 (omega (arith, whole.0)) }

  pub rows_are : AreRows (rows_of a)
  rows_are = record {
    each = λ row i. let x = in_map_from row_of row (entries a.members) i in subst IsRow x.2 (row_is x.0 x.1);
    in_order = rows_in_order (entries a.members) (is_true _ (entries_sorted a.members));
  }

  pub rows_back : image_of_rows a.vector (rows_of a) ≡ a
  rows_back =
      let pairs : map pair_of (rows_of a) ≡ entries a.members
      = map_back row_of pair_of (entries a.members) (λ e i. ap (λ x. (e.0, x)) (entry_back e.1 (are e.0.0 e.0.1 e.1 (entry_got a.members e i)).0)) in
      let members : from_entries (map pair_of (rows_of a)) ≡ a.members = ap from_entries pairs ∙ members_back a.members in
      λ i. record { vector = a.vector; members = members i }

  -- a row has the additions of its member
  pub addition_in_row : (k m : List ℕ) (s : ℕ) (x : Addition) →
      HasAddition a k m s x ↔ ((row : Row) × IsIn row (rows_of a) × (row.key ≡ k) × (row.member ≡ m) × IsIn (s, x) row.additions)
  addition_in_row k m s x = (
    λ has. elim (get a.members (k, m)) as (λ r. get a.members (k, m) ≡ r → addition_at (unwrap_or r no_additions) s ≡ Some x →
        (row : Row) × IsIn row (rows_of a) × (row.key ≡ k) × (row.member ≡ m) × IsIn (s, x) row.additions) [
          | None ↦ λ _ h. absurd (none-some x (sym (addition_at-no_additions s) ∙ h))
          | Some e ↦ λ got h. (row_of ((k, m), e), in_map row_of ((k, m), e) (entries a.members) (entry_there a.members (k, m) e got), refl, refl, addition_listed s 0 s e x (omega arith) h)
        ] refl has,
    λ found.
        let e = in_map_from row_of found.0 (entries a.members) found.1 in
        let place : e.0.0 ≡ (k, m) = λ i. ((ap (λ r. r.key) e.2 ∙ found.2) i, (ap (λ r. r.member) e.2 ∙ found.3) i) in
        let listed : IsIn (s, x) (additions_from 0 e.0.1) = subst (λ r. IsIn (s, x) r.additions) (sym e.2) found.4 in
        let whole : (length e.0.1 ≡ SITES) × (is_bare e.0.1 ≡ false) = are e.0.0.0 e.0.0.1 e.0.1 (entry_got a.members e.0 e.1) in
        let got : get a.members (k, m) ≡ Some e.0.1 = subst (λ q. get a.members q ≡ Some e.0.1) place (entry_got a.members e.0 e.1) in
        ap (λ r. addition_at (unwrap_or r no_additions) s) got
        ∙ sym (found_at s 0 s e.0.1 (omega arith))
        ∙ found_in 0 SITES (additions_from 0 e.0.1) s x (additions_by_site 0 SITES e.0.1 (omega (arith, whole.0))) listed,
  )

-- ---- from rows to an image

below_rows : (q : Place) (rows : List Row) → ((later : Row) → IsIn later rows → place_cmp q (place_in later) ≡ Less) → below_all place_cmp q (map pair_of rows) ≡ true
below_rows q [] below = refl
below_rows q (row ∷ rows) below = and_from _ _ (ap is_lt (below row (inl refl))) (below_rows q rows (λ later i. below later (inr i)))

rows_sorted : (rows : List Row) → AreInOrder rows → is_sorted place_cmp (map pair_of rows) ≡ true
rows_sorted [] order = refl
rows_sorted (row ∷ rows) order = and_from _ _ (below_rows (place_in row) rows order.0) (rows_sorted rows order.1)

module _ (vector : List ℕ) (rows : List Row) (are : AreRows rows) where
  pairs_back : entries (image_of_rows vector rows).members ≡ map pair_of rows
  pairs_back = entries_back (map pair_of rows) (rows_sorted rows are.in_order)

  pub rows_forth : rows_of (image_of_rows vector rows) ≡ rows
  rows_forth =
      ap (map row_of) pairs_back
      ∙ map_back pair_of row_of rows (λ row i. ap (λ x. record { key = row.key; member = row.member; additions = x }) (additions_back row.additions (are.each row i).by_site))

  pub entries_are : AreEntries (image_of_rows vector rows).members
  entries_are k m e got =
      let there : IsIn ((k, m), e) (map pair_of rows) = subst (IsIn ((k, m), e)) pairs_back (entry_there (image_of_rows vector rows).members (k, m) e got) in
      let row = in_map_from pair_of ((k, m), e) rows there in
      let is : IsRow row.0 = are.each row.0 row.1 in
      let entry = ap (λ p. p.1) row.2 in
      (ap length (sym entry) ∙ length-by_site _, ap is_bare (sym entry) ∙ entry_some row.0.additions is.by_site is.some)
