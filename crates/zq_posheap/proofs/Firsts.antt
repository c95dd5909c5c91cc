-- The first of a list in order.
use Rattle.std.specs.Prelude.{AllPairs, Contains, IsPermutation, List, Some, [], false, get_or, length, map, pos, slice_get, suc, take, zero, ℕ, ℤ, ◌++◌, ◌+◌, ◌<◌, ◌⊎◌, ◌≡◌, ◌≢◌, ◌∷◌}
use Rattle.std.proofs.Common.{ap, arith, inl, inr, refl, subst, sym, ◌∙◌}
use Rattle.std.proofs.HeapSift.{ranks}
use Rattle.std.proofs.lemmas.List.{append-nil, get_or-append-add, get_or_append_left, get_or_default, length-append, length-map, map-append}
use Rattle.std.proofs.lemmas.List.Elements.{Contains-append_cases, Contains-append_left}
use Rattle.std.proofs.lemmas.List.Sorted.{Contains-permutation, IsPermutation-append_left, IsPermutation-map, IsPermutation-refl, IsPermutation-sym, IsPermutation-trans, length_permutation}
use Rattle.std.proofs.lemmas.Map.Keys.{sorted_from_all_adjacent}
use Rattle.std.proofs.lemmas.Option.{get_or_from_slice_get, slice_get-get_or, slice_get_within}
use Rattle.std.specs.Borrow.{Bor}
use Rattle.std.specs.List.{AllByRecursion}
use Rattle.std.specs.List.Sorted.{IsSorted, IsSplitAround, IsStrictlySortedBy}
use Rattle.std.specs.Ordering.{is_lt}
use Rattle.std.specs.declared.cmp.Ordering.TheVariants.{Less}
use Rattle.zq_posheap.proofs.Listed.{sorted_pairs}
use Rattle.zq_posheap.proofs.Listings.{length-listing, shuffled}
use Rattle.zq_posheap.proofs.Lists.{behind}
use Rattle.zq_posheap.proofs.Ordered.{no_cycle, scored_total}
use Rattle.zq_posheap.proofs.Tops.{before}
use Rattle.zq_posheap.specs.InOrder.{ListsInOrder, Splits}
use Rattle.zq_posheap.specs.Listing.{IsListing, lent_pair}
use Rattle.zq_posheap.specs.Members.{Scores}
use Rattle.zq_posheap.specs.Order.{Scored, scored_cmp}

-- what a list with a first element has
pub first_or_later : {X : Type 0} (x : X) (xs : List X) (y : X) → Contains (x ∷ xs) y → (x ≡ y) ⊎ Contains xs y
first_or_later x xs y at = by at.0 at.1 at.2
  where
    by : (i : ℕ) → i < length (x ∷ xs) → get_or (x ∷ xs) i y ≡ y → (x ≡ y) ⊎ Contains xs y
    by zero within is = inl is
    by (suc i) within is = inr (i, omega arith, is)

pub has_first : {X : Type 0} (x : X) (xs : List X) → Contains (x ∷ xs) x
has_first x xs = (zero, omega arith, refl)

pub has_later : {X : Type 0} (x : X) (xs : List X) (y : X) → Contains xs y → Contains (x ∷ xs) y
has_later x xs y at = (suc at.0, omega (arith, at.1), at.2)

pub later_all : {X : Type 0} (P : X → Type 0) (xs : List X) (y : X) → AllByRecursion P xs → Contains xs y → P y
later_all P [] y all at = absurd (omega (arith, at.1))
later_all P (x ∷ xs) y all at = elim (first_or_later x xs y at) as (λ _. P y) [ inl e ↦ subst P e all.0 | inr later ↦ later_all P xs y all.1 later ]

-- the first of a list in order are those of its elements that go before the others
pub firsts_are : (xs ys : List Scored) (Other : Scored → Type 0) → IsStrictlySortedBy scored_cmp xs → IsStrictlySortedBy scored_cmp ys →
    ((y : Scored) → Contains ys y → Contains xs y ⊎ Other y) → ((x : Scored) → Contains xs x → Contains ys x) →
    ((x y : Scored) → Contains xs x → Other y → scored_cmp x y ≡ Less) → xs ≡ take (length xs) ys
unfolding IsStrictlySortedBy
firsts_are [] ys Other up rises either there lower = refl
firsts_are (x ∷ xs) [] Other up rises either there lower = absurd (omega (arith, (there x (has_first x xs)).1))
firsts_are (x ∷ xs) (y ∷ ys) Other up rises either there lower =
    let follows : (z : Scored) → Contains xs z → scored_cmp x z ≡ Less = λ z at. later_all (λ z. scored_cmp x z ≡ Less) xs z up.0 at in
    let above : (z : Scored) → Contains ys z → scored_cmp y z ≡ Less = λ z at. later_all (λ z. scored_cmp y z ≡ Less) ys z rises.0 at in
    let not_above : Contains ys x → scored_cmp x y ≢ Less = λ at. no_cycle y x (above x at) in
    let same : y ≡ x = elim (first_or_later y ys x (there x (has_first x xs))) as (λ _. y ≡ x) [
      | inl e ↦ e
      | inr later ↦ elim (either y (has_first y ys)) as (λ _. y ≡ x) [
        | inl in_xs ↦ elim (first_or_later x xs y in_xs) as (λ _. y ≡ x) [ inl e ↦ sym e | inr at ↦ absurd (not_above later (follows y at)) ]
        | inr other ↦ absurd (not_above later (lower x y (has_first x xs) other))
      ]
    ] in
    let apart : (z : Scored) → scored_cmp y z ≡ Less → y ≢ z = λ z less e. let loop : scored_cmp z z ≡ Less = subst (λ w. scored_cmp w z ≡ Less) e less in no_cycle z z loop loop in
    let rest : xs ≡ take (length xs) ys = firsts_are xs ys Other up.1 rises.1
    (λ z at. elim (either z (has_later y ys z at)) as (λ _. Contains xs z ⊎ Other z) [
      | inl in_xs ↦ elim (first_or_later x xs z in_xs) as (λ _. Contains xs z ⊎ Other z) [
        | inl e ↦ absurd (apart z (above z at) (same ∙ e))
        | inr later ↦ inl later
      ]
      | inr other ↦ inr other
    ])
    (λ z at. elim (first_or_later y ys z (there z (has_later x xs z at))) as (λ _. Contains ys z) [
      | inl e ↦ absurd (apart z (subst (λ w. scored_cmp w z ≡ Less) (sym same) (follows z at)) e)
      | inr later ↦ later
    ])
    (λ w z at other. lower w z (has_later x xs w at) other) in
    λ k. sym same k ∷ rest k

pub rising : (sorted : List (ℤ × Bor (List ℕ))) → IsSorted (λ x y. scored_cmp (lent_pair x) (lent_pair y)) sorted → AllPairs (λ x y. x.1 ≢ y.1) (map lent_pair sorted) →
    IsStrictlySortedBy scored_cmp (map lent_pair sorted)
rising sorted up apart =
    let ys = map lent_pair sorted in
    let none : Scored = (pos 0, []) in
    sorted_from_all_adjacent scored_total ys none (λ k within.
    before (get_or ys k none) (get_or ys (k + 1) none) (sorted_pairs sorted up k none (omega arith) within)
    (λ same. apart k (k + 1) none (omega arith) within (ap (λ p. p.1) (sym same))))

-- pairs that are apart are so in the front, and in front and back
pub apart_in_front : (xs ys : List Scored) → AllPairs (λ x y. x.1 ≢ y.1) (xs ++ ys) → AllPairs (λ x y. x.1 ≢ y.1) xs
apart_in_front xs ys apart i j d lo within same = apart i j d lo (omega (arith, within, length-append xs ys))
    (ap (λ p. p.1) (get_or_append_left xs ys d i (omega (arith, lo, within))) ∙ same ∙ sym (ap (λ p. p.1) (get_or_append_left xs ys d j within)))

pub apart_across : (xs ys : List Scored) → AllPairs (λ x y. x.1 ≢ y.1) (xs ++ ys) → (x y : Scored) → Contains xs x → Contains ys y → y ≢ x
apart_across xs ys apart x y at_x at_y same =
    apart at_x.0 (length xs + at_y.0) x (omega (arith, at_x.1)) (omega (arith, at_y.1, length-append xs ys))
    (ap (λ p. p.1) (get_or_append_left xs ys x at_x.0 at_x.1 ∙ at_x.2 ∙ sym same ∙ sym at_y.2 ∙ get_or_default ys at_y.0 y x at_y.1 ∙ sym (get_or-append-add xs ys at_y.0 x)))

-- what is among the pairs that are lent
pub lent_there : (xs : List (ℤ × Bor (List ℕ))) (x : Scored) → Contains (map lent_pair xs) x → (y : ℤ × Bor (List ℕ)) × Contains xs y × (lent_pair y ≡ x)
lent_there xs x at =
    let seen : slice_get (map lent_pair xs) at.0 ≡ Some x = slice_get-get_or (map lent_pair xs) at.0 x at.1 ∙ ap (λ z. Some z) at.2 in
    let y = behind lent_pair xs at.0 x seen in
    (y.0, (at.0, slice_get_within xs at.0 y.0 y.1, get_or_from_slice_get xs at.0 y.0 y.0 y.1), y.2)

-- the first of the pairs of a map, sorted, begin its pairs in order
pub firsts_begin : (scores : Scores) (all firsts sorted : List (ℤ × Bor (List ℕ))) (n : ℕ) → IsListing scores (map lent_pair all) → Splits all firsts n →
    IsPermutation firsts sorted → IsSorted (λ x y. scored_cmp (lent_pair x) (lent_pair y)) sorted →
    (pairs : List Scored) → ListsInOrder scores pairs → map lent_pair sorted ≡ take n pairs
firsts_begin scores all firsts sorted n lists splits moved up pairs order =
    let xs = map lent_pair sorted in
    let ys = map lent_pair splits.others in
    let both : IsPermutation all (sorted ++ splits.others) = IsPermutation-trans all (firsts ++ splits.others) (sorted ++ splits.others) splits.permutation
    (IsPermutation-append_left splits.others firsts sorted moved) in
    let seen : IsPermutation (map lent_pair all) (xs ++ ys) =
    subst (IsPermutation (map lent_pair all)) (map-append lent_pair sorted splits.others) (IsPermutation-map lent_pair all (sorted ++ splits.others) both) in
    let whole = shuffled scores (map lent_pair all) lists (xs ++ ys) seen in
    let long : length xs ≡ n = length-map sorted lent_pair ∙ length_permutation firsts sorted moved ∙ splits.len in
    let is = firsts_are xs pairs (Contains ys) (rising sorted up (apart_in_front xs ys whole.once)) order.rises
    (λ y at. Contains-append_cases xs ys y ((whole.has y).1 ((order.lists.has y).0 at)))
    (λ x at. (order.lists.has x).1 ((whole.has x).0 (Contains-append_left xs ys x at)))
    (λ x y at_x at_y.
    let a = lent_there sorted x at_x in
    let b = lent_there splits.others y at_y in
    let after = splits.split a.0 b.0 (Contains-permutation sorted firsts a.0 (IsPermutation-sym firsts sorted moved) a.1) b.1 in
    before x y ((λ k. is_lt (scored_cmp (sym b.2 k) (sym a.2 k))) ∙ after) (apart_across xs ys whole.once x y at_x at_y)) in
    is ∙ ap (λ m. take m pairs) long

-- all of them are their first
pub splits_all : (all : List (ℤ × Bor (List ℕ))) (n : ℕ) → length all ≡ n → Splits all all n
splits_all all n long = record {
  others = [];
  permutation = subst (IsPermutation all) (sym (append-nil all)) (IsPermutation-refl all);
  len = long;
  split = λ x y at_x at_y. absurd (omega (arith, at_y.1));
}

-- a map has as many pairs in order as in any
pub one_length : (scores : Scores) (all : List (ℤ × Bor (List ℕ))) → IsListing scores (map lent_pair all) → (pairs : List Scored) → ListsInOrder scores pairs → length all ≡ length pairs
one_length scores all lists pairs order = sym (length-map all lent_pair) ∙ length-listing scores (map lent_pair all) lists ∙ sym (length-listing scores pairs order.lists)

-- what a selection leaves in front
pub splits_around : (all front : List (ℤ × Bor (List ℕ))) (middle : ℤ × Bor (List ℕ)) (back firsts : List (ℤ × Bor (List ℕ))) (n : ℕ) → firsts ≡ front →
    IsPermutation all (front ++ middle ∷ back) → length front ≡ n → IsSplitAround (λ x y. scored_cmp (lent_pair x) (lent_pair y)) front middle back → Splits all firsts n
splits_around all front middle back firsts n is moved long split = subst (λ xs. Splits all xs n) (sym is) (record {
  others = middle ∷ back;
  permutation = moved;
  len = long;
  split = λ x y at_x at_y.
      let above : is_lt (scored_cmp (lent_pair middle) (lent_pair x)) ≡ false = (λ k. is_lt (scored_cmp (lent_pair middle) (lent_pair (sym at_x.2 k)))) ∙ split.0 at_x.0 x at_x.1 in
      elim (first_or_later middle back y at_y) as (λ _. is_lt (scored_cmp (lent_pair y) (lent_pair x)) ≡ false) [
        | inl e ↦ (λ k. is_lt (scored_cmp (lent_pair (sym e k)) (lent_pair x))) ∙ above
        | inr later ↦
            let over : is_lt (scored_cmp (lent_pair y) (lent_pair middle)) ≡ false =
            (λ k. is_lt (scored_cmp (lent_pair (sym later.2 k)) (lent_pair middle))) ∙ split.1 later.0 y later.1 in
            (ranks scored_total).chain (lent_pair y) (lent_pair middle) (lent_pair x) over above
      ];
})
