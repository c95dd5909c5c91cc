-- What stands between two places of a list in order.
use Rattle.std.specs.Prelude.{AllPairs, Contains, IsPermutation, List, [], cond, drop, false, length, map, min, take, true, ℕ, ℤ, ◌++◌, ◌+◌, ◌-◌, ◌<◌, ◌≤◌, ◌⊎◌, ◌≡◌, ◌≢◌, ◌∷◌}
use Rattle.std.proofs.Common.{ap, append_assoc, arith, inl, inr, refl, subst, sym, true≢false, ◌∙◌}
use Rattle.std.proofs.HeapSift.{ranks}
use Rattle.std.proofs.lemmas.List.{drop-append-le, drop-take, drop_all, get_or-append-add, get_or-take, length-append, length-drop, length-map, length-take, map-append, nil_from_length, same_lists}
use Rattle.std.proofs.lemmas.List.Elements.{Contains-append_cases, Contains-append_left}
use Rattle.std.proofs.lemmas.List.Sorted.{Contains-permutation, IsPermutation-append_left, IsPermutation-append_right, IsPermutation-cons, IsPermutation-map, IsPermutation-refl, IsPermutation-swap, IsPermutation-sym, IsPermutation-trans, length_permutation}
use Rattle.std.specs.Borrow.{Bor}
use Rattle.std.specs.List.{AllByRecursion}
use Rattle.std.specs.List.Sorted.{IsSorted, IsSplitAround, IsStrictlySortedBy}
use Rattle.std.specs.Ordering.{is_lt}
use Rattle.std.specs.declared.cmp.Ordering.{Ordering}
use Rattle.std.specs.declared.cmp.Ordering.TheVariants.{Equal, Greater, Less}
use Rattle.zq_posheap.proofs.Firsts.{apart_across, apart_in_front, first_or_later, firsts_are, has_first, has_later, later_all, lent_there, rising}
use Rattle.zq_posheap.proofs.Listings.{shuffled}
use Rattle.zq_posheap.proofs.Ordered.{scored_total}
use Rattle.zq_posheap.proofs.Tops.{before}
use Rattle.zq_posheap.specs.InOrder.{Leaves, ListsInOrder, Splits}
use Rattle.zq_posheap.specs.Listing.{IsListing, lent_pair}
use Rattle.zq_posheap.specs.Members.{Scores}
use Rattle.zq_posheap.specs.Order.{Scored, scored_cmp}

all_of : (P : Scored → Type 0) (xs : List Scored) → ((x : Scored) → Contains xs x → P x) → AllByRecursion P xs
all_of P [] each = tt
all_of P (x ∷ xs) each = (each x (has_first x xs), all_of P xs (λ y at. each y (has_later x xs y at)))

less : (r : Ordering) → is_lt r ≡ true → r ≡ Less
less Less is = refl
less Equal is = absurd (true≢false (sym is))
less Greater is = absurd (true≢false (sym is))

-- pairs that are apart are so in the back
apart_in_back : (xs ys : List Scored) → AllPairs (λ x y. x.1 ≢ y.1) (xs ++ ys) → AllPairs (λ x y. x.1 ≢ y.1) ys
apart_in_back xs ys apart i j d lo within same = apart (length xs + i) (length xs + j) d (omega (arith, lo)) (omega (arith, within, length-append xs ys))
    (ap (λ p. p.1) (get_or-append-add xs ys i d) ∙ same ∙ sym (ap (λ p. p.1) (get_or-append-add xs ys j d)))

-- a pair put where it goes, and pairs put in order one after another
abbrev put : Scored → List Scored → List Scored
put x [] = x ∷ []
put x (y ∷ ys) = cond (is_lt (scored_cmp y x)) (y ∷ put x ys) (x ∷ y ∷ ys)

abbrev ordered : List Scored → List Scored
ordered [] = []
ordered (x ∷ xs) = put x (ordered xs)

put_moves : (x : Scored) (ys : List Scored) → IsPermutation (x ∷ ys) (put x ys)
put_moves x [] = IsPermutation-refl (x ∷ [])
put_moves x (y ∷ ys) =
    let later : IsPermutation (x ∷ ys) (put x ys) = put_moves x ys in
    elim (is_lt (scored_cmp y x)) as (λ b. IsPermutation (x ∷ y ∷ ys) (cond b (y ∷ put x ys) (x ∷ y ∷ ys))) [
      | true ↦ IsPermutation-trans (x ∷ y ∷ ys) (y ∷ x ∷ ys) (y ∷ put x ys)
          (IsPermutation-swap (x ∷ y ∷ ys) (y ∷ x ∷ ys) 0 1 (omega arith) (omega arith) refl) (IsPermutation-cons y (x ∷ ys) (put x ys) later)
      | false ↦ IsPermutation-refl (x ∷ y ∷ ys)
    ]

ordered_moves : (xs : List Scored) → IsPermutation xs (ordered xs)
ordered_moves [] = IsPermutation-refl []
ordered_moves (x ∷ xs) = IsPermutation-trans (x ∷ xs) (x ∷ ordered xs) (put x (ordered xs)) (IsPermutation-cons x xs (ordered xs) (ordered_moves xs)) (put_moves x (ordered xs))

put_rises : (x : Scored) (ys : List Scored) → IsStrictlySortedBy scored_cmp ys → ((y : Scored) → Contains ys y → y ≢ x) → IsStrictlySortedBy scored_cmp (put x ys)
unfolding IsStrictlySortedBy
put_rises x [] up apart = (tt, tt)
put_rises x (y ∷ ys) up apart =
    let later : IsStrictlySortedBy scored_cmp (put x ys) = put_rises x ys up.1 (λ z at. apart z (has_later y ys z at)) in
    let follows : (z : Scored) → Contains ys z → scored_cmp y z ≡ Less = λ z at. later_all (λ z. scored_cmp y z ≡ Less) ys z up.0 at in
    elim (is_lt (scored_cmp y x)) as (λ b. is_lt (scored_cmp y x) ≡ b → IsStrictlySortedBy scored_cmp (cond b (y ∷ put x ys) (x ∷ y ∷ ys))) [
      | true ↦ λ is. (
        all_of (λ z. scored_cmp y z ≡ Less) (put x ys) (λ z at.
            elim (first_or_later x ys z (Contains-permutation (put x ys) (x ∷ ys) z (IsPermutation-sym (x ∷ ys) (put x ys) (put_moves x ys)) at)) as (λ _. scored_cmp y z ≡ Less) [
              | inl e ↦ subst (λ w. scored_cmp y w ≡ Less) e (less (scored_cmp y x) is)
              | inr in_ys ↦ follows z in_ys
            ]),
        later,
      )
      | false ↦ λ is.
          let here : scored_cmp x y ≡ Less = before x y is (apart y (has_first y ys)) in
          ((here, all_of (λ z. scored_cmp x z ≡ Less) ys (λ z at. scored_total.trans x y z here (follows z at))), up)
    ] refl

ordered_rises : (xs : List Scored) → AllPairs (λ x y. x.1 ≢ y.1) xs → IsStrictlySortedBy scored_cmp (ordered xs)
unfolding IsStrictlySortedBy
ordered_rises [] apart = tt
ordered_rises (x ∷ xs) apart = put_rises x (ordered xs) (ordered_rises xs (apart_in_back (x ∷ []) xs apart))
    (λ y at. apart_across (x ∷ []) xs apart x y (has_first x []) (Contains-permutation (ordered xs) xs y (IsPermutation-sym xs (ordered xs) (ordered_moves xs)) at))

-- two lists in order, the one before the other
rises_append : (xs ys : List Scored) → IsStrictlySortedBy scored_cmp xs → IsStrictlySortedBy scored_cmp ys →
    ((x y : Scored) → Contains xs x → Contains ys y → scored_cmp x y ≡ Less) → IsStrictlySortedBy scored_cmp (xs ++ ys)
unfolding IsStrictlySortedBy
rises_append [] ys up later across = later
rises_append (x ∷ xs) ys up later across = (
  all_of (λ z. scored_cmp x z ≡ Less) (xs ++ ys) (λ z at. elim (Contains-append_cases xs ys z at) as (λ _. scored_cmp x z ≡ Less) [
    | inl in_xs ↦ later_all (λ z. scored_cmp x z ≡ Less) xs z up.0 in_xs
    | inr in_ys ↦ across x z (has_first x xs) in_ys
  ]),
  rises_append xs ys up.1 later (λ y z at_y at_z. across y z (has_later x xs y at_y) at_z),
)

-- what the first so many of a map's pairs leave beside the first of them, sorted, is what stands there in order
pub slice_is : (scores : Scores) (all firsts lasts sorted : List (ℤ × Bor (List ℕ))) (m n : ℕ) → IsListing scores (map lent_pair all) → Splits all firsts m → Leaves firsts lasts n →
    IsPermutation lasts sorted → IsSorted (λ x y. scored_cmp (lent_pair x) (lent_pair y)) sorted →
    (pairs : List Scored) → ListsInOrder scores pairs → map lent_pair sorted ≡ drop n (take m pairs)
slice_is scores all firsts lasts sorted m n lists splits leaves moved up pairs order =
    let front = leaves.firsts in
    let fs = map lent_pair front in
    let xs = map lent_pair sorted in
    let os = map lent_pair splits.others in
    let inner : IsPermutation firsts (front ++ sorted) =
    IsPermutation-trans firsts (front ++ lasts) (front ++ sorted) leaves.permutation (IsPermutation-append_right front lasts sorted moved) in
    let both : IsPermutation all ((front ++ sorted) ++ splits.others) =
    IsPermutation-trans all (firsts ++ splits.others) ((front ++ sorted) ++ splits.others) splits.permutation
    (IsPermutation-append_left splits.others firsts (front ++ sorted) inner) in
    let mapped : map lent_pair (front ++ sorted) ≡ fs ++ xs = map-append lent_pair front sorted in
    let seen : IsPermutation (map lent_pair all) ((fs ++ xs) ++ os) =
    subst (IsPermutation (map lent_pair all)) (map-append lent_pair (front ++ sorted) splits.others ∙ ap (λ zs. zs ++ os) mapped)
    (IsPermutation-map lent_pair all ((front ++ sorted) ++ splits.others) both) in
    let whole = shuffled scores (map lent_pair all) lists ((fs ++ xs) ++ os) seen in
    let apart = apart_in_front (fs ++ xs) os whole.once in
    let low = ordered fs in
    let ys = low ++ xs in
    let same : IsPermutation (fs ++ xs) ys = IsPermutation-append_left xs fs low (ordered_moves fs) in
    let back : IsPermutation ys (fs ++ xs) = IsPermutation-sym (fs ++ xs) ys same in
    let rises : IsStrictlySortedBy scored_cmp ys =
    rises_append low xs (ordered_rises fs (apart_in_front fs xs apart)) (rising sorted up (apart_in_back fs xs apart)) (λ x y at_x at_y.
    let here : Contains fs x = Contains-permutation low fs x (IsPermutation-sym fs low (ordered_moves fs)) at_x in
    let a = lent_there front x here in
    let b = lent_there sorted y at_y in
    let after = leaves.split a.0 b.0 a.1 (Contains-permutation sorted lasts b.0 (IsPermutation-sym lasts sorted moved) b.1) in
    before x y ((λ k. is_lt (scored_cmp (sym b.2 k) (sym a.2 k))) ∙ after) (apart_across fs xs apart x y here at_y)) in
    let is : ys ≡ take (length ys) pairs = firsts_are ys pairs (Contains os) rises order.rises
    (λ y at. elim (Contains-append_cases (fs ++ xs) os y ((whole.has y).1 ((order.lists.has y).0 at))) as (λ _. Contains ys y ⊎ Contains os y) [
      | inl here ↦ inl (Contains-permutation (fs ++ xs) ys y same here)
      | inr other ↦ inr other
    ])
    (λ x at. (order.lists.has x).1 ((whole.has x).0 (Contains-append_left (fs ++ xs) os x (Contains-permutation ys (fs ++ xs) x back at))))
    (λ x y at_x at_y.
    let here : Contains (fs ++ xs) x = Contains-permutation ys (fs ++ xs) x back at_x in
    let a = lent_there (front ++ sorted) x (subst (λ zs. Contains zs x) (sym mapped) here) in
    let b = lent_there splits.others y at_y in
    let after = splits.split a.0 b.0 (Contains-permutation (front ++ sorted) firsts a.0 (IsPermutation-sym firsts (front ++ sorted) inner) a.1) b.1 in
    before x y ((λ k. is_lt (scored_cmp (sym b.2 k) (sym a.2 k))) ∙ after) (apart_across (fs ++ xs) os whole.once x y here at_y)) in
    let long : length ys ≡ m = length_permutation (fs ++ xs) ys same ∙ sym (ap length mapped) ∙ length-map (front ++ sorted) lent_pair
    ∙ length_permutation firsts (front ++ sorted) inner ∙ splits.len in
    let short : length low ≡ n = length_permutation fs low (ordered_moves fs) ∙ length-map front lent_pair ∙ leaves.len in
    sym (drop-append-le n low xs (omega (arith, short)) ∙ ap (λ zs. zs ++ xs) (drop_all n low (omega (arith, short))))
    ∙ ap (drop n) (is ∙ ap (λ k. take k pairs) long)

-- what a selection leaves behind
pub leaves_around : (all front : List (ℤ × Bor (List ℕ))) (middle : ℤ × Bor (List ℕ)) (back lasts : List (ℤ × Bor (List ℕ))) (n : ℕ) → lasts ≡ back →
    IsPermutation all (front ++ middle ∷ back) → length front + 1 ≡ n → IsSplitAround (λ x y. scored_cmp (lent_pair x) (lent_pair y)) front middle back → Leaves all lasts n
leaves_around all front middle back lasts n is moved long split = subst (λ xs. Leaves all xs n) (sym is) (record {
  firsts = front ++ middle ∷ [];
  permutation = subst (IsPermutation all) (sym (append_assoc front (middle ∷ []) back)) moved;
  len = length-append front (middle ∷ []) ∙ long;
  split = λ x y at_x at_y.
      let over : is_lt (scored_cmp (lent_pair y) (lent_pair middle)) ≡ false = (λ k. is_lt (scored_cmp (lent_pair (sym at_y.2 k)) (lent_pair middle))) ∙ split.1 at_y.0 y at_y.1 in
      elim (Contains-append_cases front (middle ∷ []) x at_x) as (λ _. is_lt (scored_cmp (lent_pair y) (lent_pair x)) ≡ false) [
        | inl earlier ↦
            let above : is_lt (scored_cmp (lent_pair middle) (lent_pair x)) ≡ false =
            (λ k. is_lt (scored_cmp (lent_pair middle) (lent_pair (sym earlier.2 k)))) ∙ split.0 earlier.0 x earlier.1 in
            (ranks scored_total).chain (lent_pair y) (lent_pair middle) (lent_pair x) over above
        | inr at ↦ elim (first_or_later middle [] x at) as (λ _. is_lt (scored_cmp (lent_pair y) (lent_pair x)) ≡ false) [
          | inl e ↦ (λ k. is_lt (scored_cmp (lent_pair y) (lent_pair (sym e k)))) ∙ over
          | inr none ↦ absurd (omega (arith, none.1))
        ]
      ];
})

-- beside none of them all are left
pub leaves_all : (all : List (ℤ × Bor (List ℕ))) (n : ℕ) → n ≡ 0 → Leaves all all n
leaves_all all n none = record { firsts = []; permutation = IsPermutation-refl all; len = sym none; split = λ x y at_x at_y. absurd (omega (arith, at_x.1)) }

module _ {X : Type 0} (xs : List X) where
  -- no more than all are the first so many
  pub take_least : (n : ℕ) → take (min n (length xs)) xs ≡ take n xs
  take_least n =
      let least = length-take (min n (length xs)) xs in
      same_lists (take (min n (length xs)) xs) (take n xs) (omega (arith, least, length-take n xs)) (λ k d within.
      get_or-take (min n (length xs)) xs k d (omega (arith, within, least)) ∙ sym (get_or-take n xs k d (omega (arith, within, least))))

  -- what of the first so many stands from a place on
  pub drop_of_take : (from to : ℕ) → from < to → drop from (take to xs) ≡ take (to - from) (drop from xs)
  drop_of_take from to lower =
      let sum : from + (to - from) ≡ to = omega (arith, lower) in
      ap (λ n. drop from (take n xs)) (sym sum) ∙ drop-take from (to - from) xs

  -- nothing stands from a place on up to one that is no further, nor past the end
  pub nothing_past : (from to : ℕ) → min to (length xs) ≤ from → take (to - from) (drop from xs) ≡ []
  nothing_past from to past = nil_from_length (take (to - from) (drop from xs)) (omega (arith, length-take (to - from) (drop from xs), length-drop from xs, past))
