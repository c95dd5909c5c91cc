-- Lists of a map's pairs: what makes one, and that each is the map's entries in some order.
use Rattle.std.specs.Prelude.{AllPairs, Bool, Contains, IsPermutation, List, None, Option, Some, [], cond, count_by, false, get_or, length, map, nat_eq, option_map, slice_get, suc, zero, ℕ, ◌+◌, ◌<◌, ◌≡◌, ◌≢◌, ◌∷◌}
use Rattle.std.proofs.Common.{ap, arith, refl, subst, sym, ◌∙◌}
use Rattle.std.proofs.lemmas.Cmp.{nat_list_cmp_total, nat_list_eq_equiv}
use Rattle.std.proofs.lemmas.List.{length-map, nil_from_length}
use Rattle.std.proofs.lemmas.List.Sorted.{Contains-permutation, IsPermutation-cons, IsPermutation-map, IsPermutation-refl, IsPermutation-swap, IsPermutation-sym, IsPermutation-trans, length_permutation, sum_by-IsPermutation}
use Rattle.std.proofs.lemmas.List.Sums.{sum_by-cons}
use Rattle.std.proofs.lemmas.Map.Entries.{lookup_from_place, place_from_lookup}
use Rattle.std.proofs.lemmas.Map.Keys.{IsDistinct-IsPermutation}
use Rattle.std.proofs.lemmas.Map.Made.{AllPairs-from_IsDistinct, IsDistinct-from_AllPairs}
use Rattle.std.proofs.lemmas.Map.Text.{is_eq-slice_cmp}
use Rattle.std.proofs.lemmas.Option.{get_or_from_slice_get, none-some, slice_get-get_or, slice_get-map, slice_get_within}
use Rattle.std.specs.Cmp.Lexicographic.{bytes_decides, pointwise, same_text, slice_cmp}
use Rattle.std.specs.FinMap.{FinMap, empty, entries, entries-insert, from_entries, get, get-entries, get-from_entries, len, len-empty, len-entries, same_map}
use Rattle.std.specs.FinMap.Entries.{by_order, find, put}
use Rattle.std.specs.List.{AllByRecursion, IsDistinct}
use Rattle.std.specs.Map.{keys_of, lookup}
use Rattle.std.specs.Ordering.{is_eq, nat_cmp}
use Rattle.std.specs.declared.cmp.Ordering.{Ordering}
use Rattle.std.specs.declared.cmp.Ordering.TheVariants.{Equal, Greater, Less}
use Rattle.zq_posheap.proofs.Entries.{bytes_antisymmetric}
use Rattle.zq_posheap.proofs.Lists.{option_map_some, there_is}
use Rattle.zq_posheap.specs.Listing.{AllInRange, IsListing, Row}
use Rattle.zq_posheap.specs.Members.{AreInRange, Entries}

-- a pair as an entry of the map
abbrev pub entry_of : {X : Type 0} → X × List ℕ → List ℕ × X
entry_of pair = (pair.1, pair.0)

-- the map of a list's pairs
abbrev pub map_of : {X : Type 0} → List (X × List ℕ) → FinMap (slice_cmp nat_cmp) X
map_of pairs = from_entries (map entry_of pairs)

find-lookup : {X : Type 0} (es : List (List ℕ × X)) (q : List ℕ) → find (slice_cmp nat_cmp) q es ≡ lookup (pointwise nat_eq q) es
find-lookup [] q = refl
find-lookup (e ∷ es) q = λ k. cond (is_eq-slice_cmp q e.0 k) (Some e.1) (find-lookup es q k)

get-map_of : {X : Type 0} (pairs : List (X × List ℕ)) (q : List ℕ) → get (map_of pairs) q ≡ lookup (pointwise nat_eq q) (map entry_of pairs)
get-map_of pairs q = get-from_entries nat_list_cmp_total (map entry_of pairs) q ∙ find-lookup (map entry_of pairs) q

-- no two pairs are of one member
abbrev AreApart : {X : Type 0} → List (X × List ℕ) → Type 0
AreApart pairs = AllPairs (λ x y. x.1 ≢ y.1) pairs

-- the members of the pairs
abbrev pub members : {X : Type 0} → List (X × List ℕ) → List (List ℕ)
members pairs = keys_of (map entry_of pairs)

member_at : {X : Type 0} (pairs : List (X × List ℕ)) (i : ℕ) (d : List ℕ) (e : X × List ℕ) → i < length pairs → get_or (members pairs) i d ≡ (get_or pairs i e).1
member_at [] i d e within = absurd (omega arith)
member_at (x ∷ xs) zero d e within = refl
member_at (x ∷ xs) (suc i) d e within = member_at xs i d e (omega arith)

long : {X : Type 0} (pairs : List (X × List ℕ)) → length (members pairs) ≡ length pairs
long pairs = length-map (map entry_of pairs) (λ e. e.0) ∙ length-map pairs entry_of

distinct : {X : Type 0} (pairs : List (X × List ℕ)) → AreApart pairs → IsDistinct (pointwise nat_eq) (members pairs)
distinct pairs apart = IsDistinct-from_AllPairs bytes_decides (members pairs) (λ i j d before within same.
    let j_in : j < length pairs = omega (arith, within, long pairs) in
    let i_in : i < length pairs = omega (arith, j_in, before) in
    let e = (there_is pairs j j_in).0 in
    apart i j e before j_in (sym (member_at pairs i d e i_in) ∙ same ∙ member_at pairs j d e j_in))

pub are_apart : {X : Type 0} (pairs : List (X × List ℕ)) → IsDistinct (pointwise nat_eq) (members pairs) → AreApart pairs
are_apart pairs apart i j e before within same =
    AllPairs-from_IsDistinct bytes_decides (members pairs) apart i j e.1 before (omega (arith, within, long pairs))
    (member_at pairs i e.1 e (omega (arith, before, within)) ∙ same ∙ sym (member_at pairs j e.1 e within))

-- the map has each of the pairs
finds : {X : Type 0} (pairs : List (X × List ℕ)) → AreApart pairs → (pair : X × List ℕ) → Contains pairs pair → get (map_of pairs) pair.1 ≡ Some pair.0
finds pairs once pair at =
    let here : slice_get pairs at.0 ≡ Some pair = slice_get-get_or pairs at.0 pair at.1 ∙ ap (λ x. Some x) at.2 in
    get-map_of pairs pair.1
    ∙ lookup_from_place nat_list_eq_equiv (map entry_of pairs) at.0 pair.1 pair.0 (distinct pairs once) (slice_get-map entry_of pairs at.0 ∙ ap (option_map entry_of) here)

-- and no other
found : {X : Type 0} (pairs : List (X × List ℕ)) (pair : X × List ℕ) → get (map_of pairs) pair.1 ≡ Some pair.0 → Contains pairs pair
found pairs pair has =
    let e = place_from_lookup (pointwise nat_eq pair.1) (map entry_of pairs) pair.0 (sym (get-map_of pairs pair.1) ∙ has) in
    let x = option_map_some entry_of (slice_get pairs e.0) (e.1, pair.0) (sym (slice_get-map entry_of pairs e.0) ∙ e.2) in
    let same = same_text pair.1 e.1 (sym e.3) in
    let is : x.0 ≡ pair = λ k. ((x.2 k).1, (ap (λ y. y.0) x.2 ∙ sym same) k) in
    (e.0, slice_get_within pairs e.0 x.0 x.1, get_or_from_slice_get pairs e.0 x.0 pair x.1 ∙ is)

pub listing : {X : Type 0} (pairs : List (X × List ℕ)) → AreApart pairs → IsListing (map_of pairs) pairs
listing pairs once = record { has = λ pair. (finds pairs once pair, found pairs pair); once = once }

same_option : {X : Type 0} (a b : Option X) → ((x : X) → a ≡ Some x → b ≡ Some x) → ((x : X) → b ≡ Some x → a ≡ Some x) → a ≡ b
same_option (Some x) b there back = sym (there x refl)
same_option None (Some x) there back = back x refl
same_option None None there back = refl

-- a list of the map's pairs makes the map
made_of : {X : Type 0} (scores : FinMap (slice_cmp nat_cmp) X) (pairs : List (X × List ℕ)) → IsListing scores pairs → map_of pairs ≡ scores
made_of scores pairs lists = same_map nat_list_cmp_total bytes_antisymmetric (map_of pairs) scores (λ q. same_option _ _
    (λ score is. (lists.has (score, q)).0 (found pairs (score, q) is))
    (λ score is. finds pairs lists.once (score, q) ((lists.has (score, q)).1 is)))

-- an entry of a new key among the others
put_permutes : {X : Type 0} (k : List ℕ) (v : X) (es : List (List ℕ × X)) → find (slice_cmp nat_cmp) k es ≡ None → IsPermutation ((k, v) ∷ es) (put (slice_cmp nat_cmp) k v es)
put_permutes k v [] none = IsPermutation-refl ((k, v) ∷ [])
put_permutes k v (e ∷ es) none = by (slice_cmp nat_cmp k e.0) refl (λ later. put_permutes k v es later)
  where
    by : (r : Ordering) → slice_cmp nat_cmp k e.0 ≡ r → (find (slice_cmp nat_cmp) k es ≡ None → IsPermutation ((k, v) ∷ es) (put (slice_cmp nat_cmp) k v es)) →
        IsPermutation ((k, v) ∷ e ∷ es) (by_order r ((k, v) ∷ e ∷ es) ((e.0, v) ∷ es) (e ∷ put (slice_cmp nat_cmp) k v es))
    by Less is later = IsPermutation-refl ((k, v) ∷ e ∷ es)
    by Equal is later = absurd (none-some e.1 (sym none ∙ ap (λ r. cond (is_eq r) (Some e.1) (find (slice_cmp nat_cmp) k es)) is))
    by Greater is later = IsPermutation-trans ((k, v) ∷ e ∷ es) (e ∷ (k, v) ∷ es) _
        (IsPermutation-swap ((k, v) ∷ e ∷ es) (e ∷ (k, v) ∷ es) 0 1 (omega arith) (omega arith) refl)
        (IsPermutation-cons e _ _ (later (ap (λ r. cond (is_eq r) (Some e.1) (find (slice_cmp nat_cmp) k es)) (sym is) ∙ none)))

absent : {X : Type 0} (q : List ℕ) (es : List (List ℕ × X)) → AllByRecursion (λ y. pointwise nat_eq q y ≡ false) (keys_of es) → lookup (pointwise nat_eq q) es ≡ None
absent q [] none = refl
absent q (e ∷ es) none = ap (λ b. cond b (Some e.1) (lookup (pointwise nat_eq q) es)) none.0 ∙ absent q es none.1

-- entries of distinct keys are those of the map that they make
entries_permute : {X : Type 0} (es : List (List ℕ × X)) → IsDistinct (pointwise nat_eq) (keys_of es) → IsPermutation es (entries (from_entries {R = slice_cmp nat_cmp} es))
unfolding IsDistinct
entries_permute {X} [] apart =
    let none = sym (len-entries (empty {X = X} {R = slice_cmp nat_cmp})) ∙ len-empty (slice_cmp nat_cmp) X in
    subst (IsPermutation []) (sym (nil_from_length _ none)) (IsPermutation-refl [])
entries_permute {X} (e ∷ es) apart =
    let m : FinMap (slice_cmp nat_cmp) X = from_entries es in
    let rest = entries_permute es apart.1 in
    let none = sym (get-entries m e.0) ∙ get-from_entries nat_list_cmp_total es e.0 ∙ find-lookup es e.0 ∙ absent e.0 es apart.0 in
    subst (IsPermutation (e ∷ es)) (sym (entries-insert nat_list_cmp_total m e.0 e.1))
    (IsPermutation-trans (e ∷ es) (e ∷ entries m) _ (IsPermutation-cons e es (entries m) rest) (put_permutes e.0 e.1 (entries m) none))

count-turned : {X : Type 0} (test : X × List ℕ → Bool) (pairs : List (X × List ℕ)) → count_by (λ e. test (e.1, e.0)) (map entry_of pairs) ≡ count_by test pairs
count-turned test [] = refl
count-turned test (x ∷ xs) =
    sum_by-cons (λ e. cond (test (e.1, e.0)) 1 0) (entry_of x) (map entry_of xs) ∙ ap (λ n. cond (test x) 1 0 + n) (count-turned test xs)
    ∙ sym (sum_by-cons (λ y. cond (test y) 1 0) x xs)

turned_twice : {X : Type 0} (pairs : List (X × List ℕ)) → map (λ e. (e.1, e.0)) (map entry_of pairs) ≡ pairs
turned_twice [] = refl
turned_twice (x ∷ xs) = ap (λ ys. x ∷ ys) (turned_twice xs)

module _ {X : Type 0} (scores : FinMap (slice_cmp nat_cmp) X) (pairs : List (X × List ℕ)) (lists : IsListing scores pairs) where
  -- a list of the map's pairs is its entries in some order
  permutes : IsPermutation (map entry_of pairs) (entries scores)
  permutes = subst (λ m. IsPermutation (map entry_of pairs) (entries m)) (made_of scores pairs lists) (entries_permute (map entry_of pairs) (distinct pairs lists.once))

  pub length-listing : length pairs ≡ len scores
  length-listing = sym (length-map pairs entry_of) ∙ sym (length_permutation (map entry_of pairs) (entries scores) permutes) ∙ sym (len-entries scores)

  -- a list in another order is as good
  pub shuffled : (ys : List (X × List ℕ)) → IsPermutation pairs ys → IsListing scores ys
  shuffled ys moved = record {
    has = λ pair. (
      λ at. (lists.has pair).0 (Contains-permutation ys pairs pair (IsPermutation-sym pairs ys moved) at),
      λ has. Contains-permutation pairs ys pair moved ((lists.has pair).1 has),
    );
    once = are_apart ys (IsDistinct-IsPermutation (pointwise nat_eq) nat_list_eq_equiv.symm (members pairs) (members ys)
        (IsPermutation-map (λ e. e.0) _ _ (IsPermutation-map entry_of pairs ys moved)) (distinct pairs lists.once));
  }

  -- a test passes as many of the pairs as of the entries
  pub count-listing : (test : X × List ℕ → Bool) → count_by test pairs ≡ count_by (λ e. test (e.1, e.0)) (entries scores)
  count-listing test = sym (count-turned test pairs) ∙ sym (sum_by-IsPermutation (λ e. cond (test (e.1, e.0)) 1 0) (map entry_of pairs) (entries scores) permutes)

  pub orders : IsPermutation (map (λ e. (e.1, e.0)) (entries scores)) pairs
  orders = subst (IsPermutation (map (λ e. (e.1, e.0)) (entries scores))) (turned_twice pairs)
      (IsPermutation-map (λ e. (e.1, e.0)) (entries scores) (map entry_of pairs) (IsPermutation-sym (map entry_of pairs) (entries scores) permutes))

-- the rows' scores are in the range of the map's
pub in_range : {V : Type 0} (held : Entries V) (rows : List (Row V)) → IsListing held rows → AreInRange held → AllInRange rows
in_range held rows lists all i row at = all row.1 row.0 ((lists.has row).0 (i, slice_get_within rows i row at, get_or_from_slice_get rows i row row at))
