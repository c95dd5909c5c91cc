-- What the map's entries list, and what follows for its scores in order.
use Rattle.std.specs.Prelude.{Bool, Contains, IsPermutation, List, Some, [], cond, count_by, false, get_or, length, map, nat_eq, option_map, pos, slice_get, true, zip, ℕ, ℤ, ◌++◌, ◌+◌, ◌<◌, ◌≡◌, ◌∷◌}
use Rattle.std.proofs.Common.{ap, append_assoc, arith, refl, subst, sym, zero-add, ◌∙◌}
use Rattle.std.proofs.lemmas.List.{length-map, map-append}
use Rattle.std.proofs.lemmas.List.Sorted.{IsPermutation-map}
use Rattle.std.proofs.lemmas.List.Sums.{sum_by-cons}
use Rattle.std.proofs.lemmas.Map.Keys.{sorted_from_all_adjacent}
use Rattle.std.proofs.lemmas.Option.{get_or_from_slice_get, slice_get-get_or, slice_get-map, slice_get_within}
use Rattle.std.specs.Borrow.{Bor}
use Rattle.std.specs.Cmp.Lexicographic.{pointwise}
use Rattle.std.specs.FinMap.{entries, from_entries, get}
use Rattle.std.specs.List.{AllByRecursion, IsDistinct}
use Rattle.std.specs.List.Sorted.{IsSorted, IsSortedBy}
use Rattle.std.specs.Map.{keys_of, values_of}
use Rattle.std.specs.Ordering.{is_lt}
use Rattle.zq_posheap.proofs.Entries.{seen_in}
use Rattle.zq_posheap.proofs.Listings.{are_apart, count-listing, entry_of, listing, members, shuffled}
use Rattle.zq_posheap.proofs.Lists.{behind, option_map_some, there_is}
use Rattle.zq_posheap.proofs.Ordered.{scored_total}
use Rattle.zq_posheap.proofs.ScoresOf.{get-scores_of}
use Rattle.zq_posheap.proofs.Tops.{before}
use Rattle.zq_posheap.specs.InOrder.{ListsInOrder}
use Rattle.zq_posheap.specs.Listing.{IsListing, Row, entry_row, lent_pair, scored_of}
use Rattle.zq_posheap.specs.Members.{Entries, Scores, scores_of}
use Rattle.zq_posheap.specs.Moves.{shown}
use Rattle.zq_posheap.specs.Order.{Scored, same_key, scored_cmp}
use Rattle.zq_posheap.specs.declared.heap.ScoredValue.{ScoredValue}

module _ {V : Type 0} where
  apart_from : (q : List ℕ) (es : List (List ℕ × ScoredValue V)) → AllByRecursion (λ key. pointwise nat_eq q key ≡ false) (keys_of es) →
      AllByRecursion (λ member. pointwise nat_eq q member ≡ false) (members (map entry_row es))
  apart_from q [] all = tt
  apart_from q (e ∷ es) all = (all.0, apart_from q es all.1)

  distinct_members : (es : List (List ℕ × ScoredValue V)) → IsDistinct same_key (keys_of es) → IsDistinct (pointwise nat_eq) (members (map entry_row es))
  unfolding IsDistinct
  distinct_members [] distinct = tt
  distinct_members (e ∷ es) distinct = (apart_from e.0 es distinct.0, distinct_members es distinct.1)

  as_entries : (es : List (List ℕ × ScoredValue V)) → map entry_of (map entry_row es) ≡ zip (keys_of es) (map shown (values_of es))
  as_entries [] = refl
  as_entries (e ∷ es) = ap (λ xs. (e.0, shown e.1) ∷ xs) (as_entries es)

  -- the entries' rows are the map's
  pub listed : (es : List (List ℕ × ScoredValue V)) → IsDistinct same_key (keys_of es) → IsListing (seen_in shown es) (map entry_row es)
  listed es distinct = subst (λ m. IsListing m (map entry_row es)) (ap from_entries (as_entries es))
      (listing (map entry_row es) (are_apart (map entry_row es) (distinct_members es distinct)))

module _ {V : Type 0} (held : Entries V) (rows : List (Row V)) (lists : IsListing held rows) where
  scored_has : (pair : Scored) → Contains (map scored_of rows) pair → get (scores_of held) pair.1 ≡ Some pair.0
  scored_has pair at =
      let here : slice_get (map scored_of rows) at.0 ≡ Some pair = slice_get-get_or (map scored_of rows) at.0 pair at.1 ∙ ap (λ x. Some x) at.2 in
      let row = behind scored_of rows at.0 pair here in
      let there = (lists.has row.0).0 (at.0, slice_get_within rows at.0 row.0 row.1, get_or_from_slice_get rows at.0 row.0 row.0 row.1) in
      subst (λ (p : Scored). get (scores_of held) p.1 ≡ Some p.0) row.2 (get-scores_of held row.0.1 ∙ ap (option_map (λ e. e.0)) there)

  has_scored : (pair : Scored) → get (scores_of held) pair.1 ≡ Some pair.0 → Contains (map scored_of rows) pair
  has_scored pair has =
      let e = option_map_some (λ e. e.0) (get held pair.1) pair.0 (sym (get-scores_of held pair.1) ∙ has) in
      let at = (lists.has (e.0, pair.1)).1 e.1 in
      let row : slice_get rows at.0 ≡ Some (e.0, pair.1) = slice_get-get_or rows at.0 (e.0, pair.1) at.1 ∙ ap (λ x. Some x) at.2 in
      let seen : slice_get (map scored_of rows) at.0 ≡ Some (e.0.0, pair.1) = slice_get-map scored_of rows at.0 ∙ ap (option_map scored_of) row in
      let here : slice_get (map scored_of rows) at.0 ≡ Some pair = seen ∙ (λ k. Some (e.2 k, pair.1)) in
      (at.0, slice_get_within (map scored_of rows) at.0 pair here, get_or_from_slice_get (map scored_of rows) at.0 pair pair here)

  -- the scores of the rows are the map's
  pub scored_listing : IsListing (scores_of held) (map scored_of rows)
  scored_listing = record {
    has = λ pair. (scored_has pair, has_scored pair);
    once = λ i j d lo within same.
        let j_in : j < length rows = omega (arith, within, length-map rows scored_of) in
        let x = there_is rows i (omega (arith, lo, j_in)) in
        let y = there_is rows j j_in in
        let at : (m : ℕ) (z : Row V) → slice_get rows m ≡ Some z → get_or (map scored_of rows) m d ≡ scored_of z =
        λ m z here. get_or_from_slice_get (map scored_of rows) m (scored_of z) d (slice_get-map scored_of rows m ∙ ap (option_map scored_of) here) in
        lists.once i j x.0 lo j_in (ap (λ r. r.1) (get_or_from_slice_get rows i x.0 x.0 x.1) ∙ sym (ap (λ p. p.1) (at i x.0 x.1)) ∙ same ∙ ap (λ p. p.1) (at j y.0 y.1)
        ∙ sym (ap (λ r. r.1) (get_or_from_slice_get rows j y.0 x.0 y.1)));
  }

  -- a test passes as many of the rows' scores as of the map's
  pub counts : (test : Scored → Bool) → count_by test (map scored_of rows) ≡ count_by (λ e. test (e.1, e.0)) (entries (scores_of held))
  counts test = count-listing (scores_of held) (map scored_of rows) scored_listing test

  -- where the count begins
  pub count_begins : (test : Scored → Bool) (left : List (Row V)) → left ≡ rows → 0 + count_by test (map scored_of left) ≡ count_by (λ e. test (e.1, e.0)) (entries (scores_of held))
  count_begins test left is = zero-add _ ∙ ap (λ xs. count_by test (map scored_of xs)) is ∙ counts test

-- where it ends, as of the scores in order
pub count_ends : {V : Type 0} (test : Scored → Bool) (scores : Scores) (n : ℕ) (left : List (Row V)) → left ≡ [] →
    n + count_by test (map scored_of left) ≡ count_by (λ e. test (e.1, e.0)) (entries scores) → (pairs : List Scored) → ListsInOrder scores pairs → n ≡ count_by test pairs
count_ends test scores n left none counted pairs order =
    let last : n + 0 ≡ count_by test pairs = ap (λ xs. n + count_by test (map scored_of xs)) (sym none) ∙ counted ∙ sym (count-listing scores pairs order.lists test) in
    omega (arith, last)

pub sorted_pairs : (sorted : List (ℤ × Bor (List ℕ))) → IsSorted (λ x y. scored_cmp (lent_pair x) (lent_pair y)) sorted →
    IsSortedBy (λ x y. is_lt (scored_cmp x y)) (map lent_pair sorted)
sorted_pairs sorted up k d lo within =
    let within' : k + 1 < length sorted = omega (arith, within, length-map sorted lent_pair) in
    let x = there_is sorted k (omega (arith, within')) in
    let y = there_is sorted (k + 1) within' in
    let at : (i : ℕ) (z : ℤ × Bor (List ℕ)) → slice_get sorted i ≡ Some z → get_or (map lent_pair sorted) i d ≡ lent_pair z =
    λ i z here. get_or_from_slice_get (map lent_pair sorted) i (lent_pair z) d (slice_get-map lent_pair sorted i ∙ ap (option_map lent_pair) here) in
    let same : (i : ℕ) (z : ℤ × Bor (List ℕ)) → slice_get sorted i ≡ Some z → get_or sorted i x.0 ≡ z = λ i z here. get_or_from_slice_get sorted i z x.0 here in
    (λ j. is_lt (scored_cmp (at (k + 1) y.0 y.1 j) (at k x.0 x.1 j)))
    ∙ (λ j. is_lt (scored_cmp (lent_pair (sym (same (k + 1) y.0 y.1) j)) (lent_pair (sym (same k x.0 x.1) j)))) ∙ up k x.0 (omega arith) within'

-- the map's pairs, once they are sorted, are its pairs in order
pub in_order : (scores : Scores) (pairs sorted : List (ℤ × Bor (List ℕ))) → IsListing scores (map lent_pair pairs) → IsPermutation pairs sorted →
    IsSorted (λ x y. scored_cmp (lent_pair x) (lent_pair y)) sorted → ListsInOrder scores (map lent_pair sorted)
in_order scores pairs sorted lists moved up =
    let ys = map lent_pair sorted in
    let lists' = shuffled scores (map lent_pair pairs) lists ys (IsPermutation-map lent_pair pairs sorted moved) in
    let none : Scored = (pos 0, []) in
    record {
      lists = lists';
      rises = sorted_from_all_adjacent scored_total ys none (λ k within.
          before (get_or ys k none) (get_or ys (k + 1) none) (sorted_pairs sorted up k none (omega arith) within)
          (λ same. lists'.once k (k + 1) none (omega arith) within (ap (λ p. p.1) (sym same))));
    }

-- the first of the rows that are left goes to the pairs that are done
pub one_more : {V : Type 0} (scores : Scores) (done done' : List (ℤ × Bor (List ℕ))) (left rest : List (Row V)) (q : Row V) (pair : ℤ × Bor (List ℕ)) →
    left ≡ q ∷ rest → done' ≡ done ++ pair ∷ [] → lent_pair pair ≡ scored_of q →
    IsListing scores (map lent_pair done ++ map scored_of left) → IsListing scores (map lent_pair done' ++ map scored_of rest)
one_more scores done done' left rest q pair next more same lists =
    subst (IsListing scores)
    ((λ k. map lent_pair done ++ map scored_of (next k)) ∙ (λ k. map lent_pair done ++ sym same k ∷ map scored_of rest)
    ∙ sym (append_assoc (map lent_pair done) (lent_pair pair ∷ []) (map scored_of rest))
    ∙ ap (λ xs. xs ++ map scored_of rest) (sym (map-append lent_pair done (pair ∷ [])) ∙ ap (map lent_pair) (sym more))) lists

module _ {V : Type 0} (test : Scored → Bool) (n total : ℕ) (left rest : List (Row V)) (q : Row V) (next : left ≡ q ∷ rest)
    (counted : n + count_by test (map scored_of left) ≡ total) where
  first_counted : n + (cond (test (scored_of q)) 1 0 + count_by test (map scored_of rest)) ≡ total
  first_counted = ap (λ m. n + m) (sym (sum_by-cons (λ y. cond (test y) 1 0) (scored_of q) (map scored_of rest))) ∙ ap (λ xs. n + count_by test (map scored_of xs)) (sym next) ∙ counted

  -- one more row whose score passes
  pub count_passes : test (scored_of q) ≡ true → n + 1 + count_by test (map scored_of rest) ≡ total
  count_passes passes = let e : n + (1 + count_by test (map scored_of rest)) ≡ total = ap (λ b. n + (cond b 1 0 + count_by test (map scored_of rest))) (sym passes) ∙ first_counted in omega (arith, e)

  -- and one whose score does not
  pub count_skips : test (scored_of q) ≡ false → n + count_by test (map scored_of rest) ≡ total
  count_skips fails = let e : n + (0 + count_by test (map scored_of rest)) ≡ total = ap (λ b. n + (cond b 1 0 + count_by test (map scored_of rest))) (sym fails) ∙ first_counted in omega (arith, e)
