-- The members of a queue with their entries, one after another, and in order once they are sorted.
use Rattle.std.proofs.Common.{ap, append_assoc, arith, false, refl, subst, sym, true, true≢false, ◌∙◌}
use Rattle.std.proofs.lemmas.Bool.{and_from}
use Rattle.std.proofs.lemmas.Cmp.{nat_list_cmp_total}
use Rattle.std.proofs.lemmas.List.{length-map, map-append}
use Rattle.std.proofs.lemmas.List.Sorted.{IsPermutation-map}
use Rattle.std.proofs.lemmas.Map.Keys.{sorted_from_all_adjacent}
use Rattle.std.proofs.lemmas.Option.{get_or_from_slice_get, none-some, same_Some, slice_get-map}
use Rattle.std.specs.Borrow.{Bor}
use Rattle.std.specs.Cmp.Lexicographic.{slice_cmp}
use Rattle.std.specs.FinMap.{entries, entries_sorted, get, get-entries, is_sorted}
use Rattle.std.specs.FinMap.Entries.{below_all, find, same_entries}
use Rattle.std.specs.List.{AllByRecursion}
use Rattle.std.specs.List.Sorted.{IsSortedByKey, IsStrictlySortedBy}
use Rattle.std.specs.Ordering.{is_lt, nat_cmp, ordering_reverse}
use Rattle.std.specs.Prelude.{Contains, IsPermutation, List, None, Some, T, [], get_or, length, map, option_map, slice_get, ℕ, ℤ, ◌++◌, ◌+◌, ◌<◌, ◌∷◌, ◌≡◌, ◌≢◌}
use Rattle.std.specs.declared.cmp.Ordering.TheVariants.{Equal, Greater, Less}
use Rattle.zq_model.proofs.Listing.{in_map_from}
use Rattle.zq_model.proofs.Maps.{in_map}
use Rattle.zq_model.specs.Image.{Entry}
use Rattle.zq_model.specs.Sets.{IsIn}
use Rattle.zq_posheap.proofs.Entries.{bytes_antisymmetric}
use Rattle.zq_posheap.proofs.Listings.{shuffled}
use Rattle.zq_posheap.proofs.Lists.{mapped_at, there_is}
use Rattle.zq_posheap.specs.Listing.{IsListing, Row}
use Rattle.zq_queue.proofs.Helds.{get-entries_of}
use Rattle.zq_queue.proofs.Listeds.{contains_in, in_contains, pair_found, pair_there}
use Rattle.zq_queue.specs.Built.{row_pair}
use Rattle.zq_queue.specs.Entries.{Entries, bytes_cmp}
use Rattle.zq_queue.specs.Lent.{lent_entry, lent_turned}
use Rattle.zq_queue.specs.Queued.{Held, entries_of}

-- ---- one after another

module _ (held : Held) (rows : List (Row Entry)) (lists : IsListing held rows) where
  listed_got : (pair : Entry × List ℕ) → Contains (map row_pair rows) pair → get (entries_of held) pair.1 ≡ Some pair.0
  listed_got pair at =
      let row = in_map_from row_pair pair rows (contains_in pair (map row_pair rows) at) in
      let got = (lists.has row.0).0 (in_contains row.0 rows row.1) in
      subst (λ (p : Entry × List ℕ). get (entries_of held) p.1 ≡ Some p.0) row.2 (get-entries_of held row.0.1 ∙ ap (option_map (λ p. p.1)) got)

  got_listed : (pair : Entry × List ℕ) → get (entries_of held) pair.1 ≡ Some pair.0 → Contains (map row_pair rows) pair
  got_listed pair is =
      elim (get held pair.1) as (λ o. get held pair.1 ≡ o → option_map (λ (p : ℤ × Entry). p.1) o ≡ Some pair.0 → Contains (map row_pair rows) pair) [
        | None ↦ λ _ e. absurd (none-some pair.0 e)
        | Some p ↦ λ got e.
            let here : IsIn (p.1, pair.1) (map row_pair rows) = in_map row_pair (p, pair.1) rows (contains_in (p, pair.1) rows ((lists.has (p, pair.1)).1 got)) in
            in_contains pair (map row_pair rows) (subst (λ x. IsIn (x, pair.1) (map row_pair rows)) (same_Some p.1 pair.0 e) here)
      ] refl (sym (get-entries_of held pair.1) ∙ is)

  -- the rows' entries with their members are the entries
  pub entries_listing : IsListing (entries_of held) (map row_pair rows)
  entries_listing = record {
    has = λ pair. (listed_got pair, got_listed pair);
    once = λ i j d lo within same.
        let j_in : j < length rows = omega (arith, within, length-map rows row_pair) in
        let x = there_is rows i (omega (arith, lo, j_in)) in
        let y = there_is rows j j_in in
        let at : (n : ℕ) (z : Row Entry) → slice_get rows n ≡ Some z → get_or (map row_pair rows) n d ≡ row_pair z =
        λ n z here. get_or_from_slice_get (map row_pair rows) n (row_pair z) d (slice_get-map row_pair rows n ∙ ap (option_map row_pair) here) in
        lists.once i j x.0 lo j_in (ap (λ r. r.1) (get_or_from_slice_get rows i x.0 x.0 x.1) ∙ sym (ap (λ p. p.1) (at i x.0 x.1)) ∙ same ∙ ap (λ p. p.1) (at j y.0 y.1)
        ∙ sym (ap (λ r. r.1) (get_or_from_slice_get rows j y.0 x.0 y.1)));
  }

-- the first of the rows that are left goes to those that are done
pub one_row : (m : Entries) (done done' : List (Bor (List ℕ) × Bor Entry)) (left rest : List (Entry × List ℕ)) (q : Entry × List ℕ) (row : Bor (List ℕ) × Bor Entry) →
    left ≡ q ∷ rest → done' ≡ done ++ row ∷ [] → lent_turned row ≡ q →
    IsListing m (map lent_turned done ++ left) → IsListing m (map lent_turned done' ++ rest)
one_row m done done' left rest q row next more same lists =
    subst (IsListing m)
    ((λ k. map lent_turned done ++ next k) ∙ (λ k. map lent_turned done ++ sym same k ∷ rest)
    ∙ sym (append_assoc (map lent_turned done) (lent_turned row ∷ []) rest)
    ∙ ap (λ xs. xs ++ rest) (sym (map-append lent_turned done (row ∷ [])) ∙ ap (map lent_turned) (sym more))) lists

-- ---- in order

strictly : (x y : List ℕ) → is_lt (bytes_cmp y x) ≡ false → x ≢ y → bytes_cmp x y ≡ Less
strictly x y no_less apart =
    elim (bytes_cmp x y) as (λ r. bytes_cmp x y ≡ r → r ≡ Less) [
      | Less ↦ λ _. refl
      | Equal ↦ λ tied. absurd (apart (bytes_antisymmetric x y tied))
      | Greater ↦ λ above. absurd (true≢false (sym (ap is_lt (nat_list_cmp_total.antisymm y x ∙ ap ordering_reverse above)) ∙ no_less))
    ] refl

module _ {X : Type 0} where
  below_from : (q : List ℕ) (es : List (List ℕ × X)) → AllByRecursion (λ k. bytes_cmp q k ≡ Less) (map (λ e. e.0) es) → below_all bytes_cmp q es ≡ true
  below_from q [] all = refl
  below_from q (e ∷ es) all = and_from _ _ (ap is_lt all.0) (below_from q es all.1)

  sorted_from : (es : List (List ℕ × X)) → IsStrictlySortedBy bytes_cmp (map (λ e. e.0) es) → is_sorted bytes_cmp es ≡ true
  unfolding IsStrictlySortedBy
  sorted_from [] up = refl
  sorted_from (e ∷ es) up = and_from _ _ (below_from e.0 es up.0) (sorted_from es up.1)

module _ (m : Entries) (sorted : List (Bor (List ℕ) × Bor Entry)) (lists : IsListing m (map lent_turned sorted))
    (up : IsSortedByKey (λ r. r.0) (λ (x y : Bor (List ℕ)). slice_cmp nat_cmp x.now y.now) sorted) where
  abbrev es : List (List ℕ × Entry)
  es = map lent_entry sorted

  rises : IsStrictlySortedBy bytes_cmp (map (λ e. e.0) es)
  rises = sorted_from_all_adjacent nat_list_cmp_total (map (λ e. e.0) es) [] (λ k within.
      let inside : k + 1 < length sorted = omega (arith, within, length-map es (λ (e : List ℕ × Entry). e.0), length-map sorted lent_entry) in
      let x = there_is sorted k (omega (arith, inside)) in
      let y = there_is sorted (k + 1) inside in
      let name : (n : ℕ) (z : Bor (List ℕ) × Bor Entry) → slice_get sorted n ≡ Some z → get_or (map (λ (e : List ℕ × Entry). e.0) es) n [] ≡ z.0.now =
      λ n z here. get_or_from_slice_get (map (λ (e : List ℕ × Entry). e.0) es) n z.0.now [] (mapped_at (λ (e : List ℕ × Entry). e.0) es n (lent_entry z) (mapped_at lent_entry sorted n z here)) in
      let turned : (n : ℕ) (z : Bor (List ℕ) × Bor Entry) → slice_get sorted n ≡ Some z → get_or (map lent_turned sorted) n (lent_turned x.0) ≡ lent_turned z =
      λ n z here. get_or_from_slice_get (map lent_turned sorted) n (lent_turned z) (lent_turned x.0) (mapped_at lent_turned sorted n z here) in
      let itself : (n : ℕ) (z : Bor (List ℕ) × Bor Entry) → slice_get sorted n ≡ Some z → get_or sorted n x.0 ≡ z = λ n z here. get_or_from_slice_get sorted n z x.0 here in
      let no_less : is_lt (bytes_cmp y.0.0.now x.0.0.now) ≡ false
      = (λ j. is_lt (bytes_cmp (sym (itself (k + 1) y.0 y.1) j).0.now (sym (itself k x.0 x.1) j).0.now)) ∙ up k x.0 (omega arith) inside in
      let apart : x.0.0.now ≢ y.0.0.now
      = λ same. lists.once k (k + 1) (lent_turned x.0) (omega arith) (omega (arith, inside, length-map sorted lent_turned))
      (ap (λ p. p.1) (turned k x.0 x.1) ∙ same ∙ sym (ap (λ p. p.1) (turned (k + 1) y.0 y.1))) in
      (λ j. bytes_cmp (name k x.0 x.1 j) (name (k + 1) y.0 y.1 j)) ∙ strictly x.0.0.now y.0.0.now no_less apart)

  in_order : is_sorted bytes_cmp es ≡ true
  in_order = sorted_from es rises

  has_row : (q : List ℕ) (e : Entry) → get m q ≡ Some e → IsIn (q, e) es
  has_row q e got =
      let row = in_map_from lent_turned (e, q) sorted (contains_in (e, q) (map lent_turned sorted) ((lists.has (e, q)).1 got)) in
      subst (λ z. IsIn z es) (λ k. ((row.2 k).1, (row.2 k).0)) (in_map lent_entry row.0 sorted row.1)

  row_has : (q : List ℕ) (e : Entry) → IsIn (q, e) es → get m q ≡ Some e
  row_has q e here =
      let row = in_map_from lent_entry (q, e) sorted here in
      (lists.has (e, q)).0 (in_contains (e, q) (map lent_turned sorted) (subst (λ z. IsIn z (map lent_turned sorted)) (λ k. ((row.2 k).1, (row.2 k).0)) (in_map lent_turned row.0 sorted row.1)))

  found_as : (q : List ℕ) → find bytes_cmp q es ≡ find bytes_cmp q (entries m)
  found_as q =
      (elim (get m q) as (λ o. get m q ≡ o → find bytes_cmp q es ≡ o) [
        | Some e ↦ λ got. pair_found es in_order (q, e) (has_row q e got)
        | None ↦ λ none. (elim (find bytes_cmp q es) as (λ o. find bytes_cmp q es ≡ o → o ≡ None) [
          | None ↦ λ _. refl
          | Some e ↦ λ found. absurd (none-some e (sym none ∙ row_has q e (pair_there es q e found)))
        ] refl)
      ] refl) ∙ get-entries m q

  pub rows_are : map lent_entry sorted ≡ entries m
  rows_are = same_entries bytes_cmp nat_list_cmp_total bytes_antisymmetric es (entries m) (subst T (sym in_order) tt) (entries_sorted m) found_as

-- rows that are sorted are the map's entries
pub sorted_rows : (m : Entries) (rows sorted : List (Bor (List ℕ) × Bor Entry)) → IsListing m (map lent_turned rows) → IsPermutation rows sorted →
    IsSortedByKey (λ r. r.0) (λ (x y : Bor (List ℕ)). slice_cmp nat_cmp x.now y.now) sorted → map lent_entry sorted ≡ entries m
sorted_rows m rows sorted lists moved up = rows_are m sorted (shuffled m (map lent_turned rows) lists (map lent_turned sorted) (IsPermutation-map lent_turned rows sorted moved)) up
