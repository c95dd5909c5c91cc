-- What scans of a list of few members come to.
use Rattle.std.proofs.Common.{ap, arith, inl, inr, refl, subst, sym, true≢false, ◌∙◌}
use Rattle.std.proofs.lemmas.Bool.{cond-false, false_from_ne_true}
use Rattle.std.proofs.lemmas.Cmp.{nat_list_cmp_total}
use Rattle.std.proofs.lemmas.List.{length-map, map-append, take_more}
use Rattle.std.proofs.lemmas.Map.Keys.{Less-from_sorted}
use Rattle.std.proofs.lemmas.Option.{get_or_from_slice_get, none-some, same_Some, slice_get-get_or, slice_get-map}
use Rattle.std.specs.Borrow.{Bor}
use Rattle.std.specs.FinMap.{get, get-from_entries}
use Rattle.std.specs.FinMap.Entries.{find}
use Rattle.std.specs.List.Sorted.{IsPermutation, IsSorted}
use Rattle.std.specs.Ordering.{eq_by_cmp, is_lt}
use Rattle.std.specs.Prelude.{AllPairs, Bool, Contains, List, None, Option, Some, [], cond, count_by, false, get_or, is_some, length, map, option_map, pos, slice_get, suc, take, true, unwrap_or, zero, ℕ, ℤ, ◌++◌, ◌+◌, ◌<◌, ◌∷◌, ◌≡◌, ◌≢◌, ◌⊎◌}
use Rattle.std.specs.declared.cmp.Ordering.TheVariants.{Less}
use Rattle.zq_model.proofs.Listing.{in_map_from}
use Rattle.zq_model.proofs.Maps.{key_same, same_key}
use Rattle.zq_model.proofs.Rising.{less_from, not_below_itself, scored_total}
use Rattle.zq_model.specs.Sets.{IsIn}
use Rattle.zq_model.specs.Image.{Entry, is_bare}
use Rattle.zq_model.specs.Meaning.{Scored, scored_cmp}
use Rattle.zq_model.specs.Rule.{Rule}
use Rattle.zq_model.specs.Score.{score_of}
use Rattle.zq_posheap.proofs.Entries.{bytes_antisymmetric}
use Rattle.zq_posheap.proofs.Listed.{in_order, scored_listing}
use Rattle.zq_posheap.proofs.Listings.{count-listing, listing, map_of}
use Rattle.zq_posheap.proofs.Lists.{there_is}
use Rattle.zq_posheap.specs.InOrder.{ListsInOrder}
use Rattle.zq_posheap.specs.Listing.{IsListing, Row, lent_pair, scored_of}
use Rattle.zq_posheap.specs.Members.{Scores, scores_of}
use Rattle.zq_queue.proofs.Fews.{lists_few, one_of}
use Rattle.zq_queue.proofs.Helds.{get-entries_of, its_own_score}
use Rattle.zq_queue.proofs.Listeds.{contains_in, in_contains, is_listed, listed_in_order}
use Rattle.zq_queue.proofs.Rowed.{entries_listing}
use Rattle.zq_queue.specs.Built.{row_pair}
use Rattle.zq_queue.specs.Entries.{bytes_cmp}
use Rattle.zq_queue.specs.Few.{AreFew, entries_by, names_in, pairs_by, row_of, rows_of, scored_by}
use Rattle.zq_queue.specs.Least.{IsLeastOf, is_first}
use Rattle.zq_queue.specs.Listed.{listed}
use Rattle.zq_queue.specs.Queued.{AreScored, Held, entries_of}
use Rattle.zq_queue.specs.declared.few.Member.{Member}

-- ---- looking for a name

abbrev found : List Member → List ℕ → Option Entry
found list q = find bytes_cmp q (map (λ (row : Entry × List ℕ). (row.1, row.0)) (rows_of list))

same_first : (m : Member) (q : List ℕ) → Some m.name ≡ Some q → eq_by_cmp bytes_cmp q m.name ≡ true
same_first m q is = key_same nat_list_cmp_total q m.name (sym (same_Some m.name q is))

found_here : (list : List Member) (i : ℕ) (q : List ℕ) → slice_get (names_in list) i ≡ Some q → is_some (found list q) ≡ true
found_here [] i q at = absurd (none-some q at)
found_here (m ∷ list) zero q at = ap (λ b. is_some (cond b (Some m.entry) (found list q))) (same_first m q at)
found_here (m ∷ list) (suc i) q at = by (eq_by_cmp bytes_cmp q m.name) (found_here list i q at)
  where
    by : (b : Bool) → is_some (found list q) ≡ true → is_some (cond b (Some m.entry) (found list q)) ≡ true
    by true there = refl
    by false there = there

found_nowhere : (list : List Member) (q : List ℕ) → ((i : ℕ) → slice_get (names_in list) i ≡ Some q → ⊥) → found list q ≡ None
found_nowhere [] q none = refl
found_nowhere (m ∷ list) q none =
    cond-false (eq_by_cmp bytes_cmp q m.name) (Some m.entry) (found list q) (false_from_ne_true _ (λ t. none 0 (ap (λ x. Some x) (sym (same_key bytes_antisymmetric q m.name t)))))
    ∙ found_nowhere list q (λ i at. none (suc i) at)

-- a name at a place is one of the map's
pub there_at : (list : List Member) (i : ℕ) (q : List ℕ) → slice_get (names_in list) i ≡ Some q → is_some (get (entries_by list) q) ≡ true
there_at list i q at = ap is_some (get-from_entries nat_list_cmp_total (map (λ (row : Entry × List ℕ). (row.1, row.0)) (rows_of list)) q) ∙ found_here list i q at

-- and one at no place is not
pub not_there : (list : List Member) (q : List ℕ) → ((i : ℕ) → slice_get (names_in list) i ≡ Some q → ⊥) → get (entries_by list) q ≡ None
not_there list q none = get-from_entries nat_list_cmp_total (map (λ (row : Entry × List ℕ). (row.1, row.0)) (rows_of list)) q ∙ found_nowhere list q none

-- the name of the member at a place
pub named_at : (list : List Member) (i : ℕ) (m : Member) → i < length list → m ≡ get_or list i m → slice_get (names_in list) i ≡ Some m.name
named_at list i m within is = slice_get-map (λ (x : Member). x.name) list i ∙ ap (option_map (λ (x : Member). x.name)) (slice_get-get_or list i m within ∙ ap (λ x. Some x) (sym is))

pub as_many_names : (list : List Member) → length (names_in list) ≡ length list
as_many_names list = length-map list (λ (x : Member). x.name)

-- ---- one more of a list

pub one_mapped : {X Y : Type 0} (f : X → Y) (xs : List X) (i : ℕ) (x : X) → slice_get xs i ≡ Some x → i < length xs → map f (take (i + 1) xs) ≡ map f (take i xs) ++ f x ∷ []
one_mapped f xs i x at within = ap (map f) (take_more xs i x within ∙ ap (λ y. take i xs ++ y ∷ []) (get_or_from_slice_get xs i x x at)) ∙ map-append f (take i xs) (x ∷ [])

-- ---- the scores of a list

-- a member with its score beside its entry
abbrev scored_row : Rule → Member → Row Entry
scored_row rule member = ((unwrap_or (score_of rule member.entry) (pos 0), member.entry), member.name)

-- members that are apart in one list of pairs are so in another
apart_as : {A X Y : Type 0} (f : A → X × List ℕ) (g : A → Y × List ℕ) → ((a : A) → (f a).1 ≡ (g a).1) → (xs : List A) →
    AllPairs (λ x y. x.1 ≢ y.1) (map f xs) → AllPairs (λ x y. x.1 ≢ y.1) (map g xs)
apart_as {A} {X} {Y} f g same xs apart i j d lo within is =
    let j_in : j < length xs = omega (arith, within, length-map xs g) in
    let x = there_is xs i (omega (arith, lo, j_in)) in
    let y = there_is xs j j_in in
    let by_g : (n : ℕ) (z : A) → slice_get xs n ≡ Some z → get_or (map g xs) n d ≡ g z =
    λ n z here. get_or_from_slice_get (map g xs) n (g z) d (slice_get-map g xs n ∙ ap (option_map g) here) in
    let by_f : (n : ℕ) (z : A) → slice_get xs n ≡ Some z → get_or (map f xs) n (f x.0) ≡ f z =
    λ n z here. get_or_from_slice_get (map f xs) n (f z) (f x.0) (slice_get-map f xs n ∙ ap (option_map f) here) in
    apart i j (f x.0) lo (omega (arith, j_in, length-map xs f))
    (ap (λ (p : X × List ℕ). p.1) (by_f i x.0 x.1) ∙ same x.0 ∙ sym (ap (λ (p : Y × List ℕ). p.1) (by_g i x.0 x.1)) ∙ is
    ∙ ap (λ (p : Y × List ℕ). p.1) (by_g j y.0 y.1) ∙ sym (same y.0) ∙ sym (ap (λ (p : X × List ℕ). p.1) (by_f j y.0 y.1)))

module _ (rule : Rule) where
  scores_fused : (list : List Member) → map scored_of (map (scored_row rule) list) ≡ pairs_by rule list
  scores_fused [] = refl
  scores_fused (m ∷ list) = ap (λ xs. scored_by rule m ∷ xs) (scores_fused list)

  rows_fused : (list : List Member) → map row_pair (map (scored_row rule) list) ≡ rows_of list
  rows_fused [] = refl
  rows_fused (m ∷ list) = ap (λ xs. row_of m ∷ xs) (rows_fused list)

  module _ (list : List Member) (few : AreFew list) where
    abbrev rows : List (Row Entry)
    rows = map (scored_row rule) list

    -- what is held where these are the members
    abbrev held : Held
    held = map_of rows

    lists : IsListing held rows
    lists = listing rows (apart_as row_of (scored_row rule) (λ m. refl) list few.apart)

    lists_scores : IsListing (scores_of held) (pairs_by rule list)
    lists_scores = subst (IsListing (scores_of held)) (scores_fused list) (scored_listing held rows lists)

    entries_are : entries_of held ≡ entries_by list
    entries_are = one_of (entries_of held) (entries_by list) (rows_of list) (subst (IsListing (entries_of held)) (rows_fused list) (entries_listing held rows lists)) (lists_few list few.apart)

    all_scored : AreScored rule held
    all_scored member e got =
        let at = in_map_from (scored_row rule) (e, member) list (contains_in (e, member) rows ((lists.has (e, member)).1 got)) in
        let some : is_bare e.1 ≡ false = few.stand member e.1 (ap (λ m. get m member) (sym entries_are) ∙ get-entries_of held member ∙ ap (option_map (λ (p : ℤ × Entry). p.1)) got) in
        subst (λ (z : Row Entry). score_of rule z.0.1 ≡ Some z.0.0) at.2 (its_own_score rule at.0.entry (ap (λ (z : Row Entry). is_bare z.0.1) at.2 ∙ some))

    in_order_few : ListsInOrder (scores_of held) (listed rule (entries_by list))
    in_order_few = subst (λ m. ListsInOrder (scores_of held) (listed rule m)) entries_are (listed_in_order rule held all_scored)

    -- the pairs, once they are sorted, are the list of the queue
    pub sorted_few : (pairs sorted : List (ℤ × Bor (List ℕ))) → map lent_pair pairs ≡ pairs_by rule list → IsPermutation pairs sorted →
        IsSorted (λ x y. scored_cmp (lent_pair x) (lent_pair y)) sorted → map lent_pair sorted ≡ listed rule (entries_by list)
    sorted_few pairs sorted are moved up =
        is_listed rule held all_scored (map lent_pair sorted) (in_order (scores_of held) pairs sorted (subst (IsListing (scores_of held)) (sym are) lists_scores) moved up)
        ∙ ap (listed rule) entries_are

    -- a test passes as many of the one as of the other
    pub count_few : (test : Scored → Bool) → count_by test (pairs_by rule list) ≡ count_by test (listed rule (entries_by list))
    count_few test = count-listing (scores_of held) (pairs_by rule list) lists_scores test ∙ sym (count-listing (scores_of held) (listed rule (entries_by list)) in_order_few.lists test)

    -- the least of the pairs is the head of the list
    pub head_few : (least : Option Scored) → IsLeastOf (pairs_by rule list) least → slice_get (listed rule (entries_by list)) 0 ≡ least
    head_few least is = head_least (scores_of held) (pairs_by rule list) (listed rule (entries_by list)) lists_scores in_order_few least is
      where
        nothing_first : (scores : Scores) (sorted : List Scored) → IsListing scores [] → ListsInOrder scores sorted → slice_get sorted 0 ≡ None
        nothing_first scores [] lists order = refl
        nothing_first scores (x ∷ xs) lists order = absurd (omega (arith, ((lists.has x).1 ((order.lists.has x).0 (0, omega arith, refl))).1))

        first_is : (scores : Scores) (pairs sorted : List Scored) → IsListing scores pairs → ListsInOrder scores sorted → (p : Scored) →
            ((pair : Scored) → Contains pairs pair → is_lt (scored_cmp pair p) ≡ false) → (i : ℕ) → i < length sorted → get_or sorted i p ≡ p → slice_get sorted 0 ≡ Some p
        first_is scores pairs [] lists order p none i within at = absurd (omega (arith, within))
        first_is scores pairs (x ∷ xs) lists order p none zero within at = ap (λ y. Some y) at
        first_is scores pairs (x ∷ xs) lists order p none (suc i) within at =
            let less : scored_cmp x p ≡ Less = ap (scored_cmp x) (sym at) ∙ Less-from_sorted scored_cmp (x ∷ xs) 0 (suc i) p order.rises (omega arith) within in
            absurd (true≢false (sym (ap is_lt less) ∙ none x ((lists.has x).1 ((order.lists.has x).0 (0, omega arith, refl)))))

        head_least : (scores : Scores) (pairs sorted : List Scored) → IsListing scores pairs → ListsInOrder scores sorted → (o : Option Scored) → IsLeastOf pairs o → slice_get sorted 0 ≡ o
        head_least scores pairs sorted lists order None none = nothing_first scores sorted (subst (IsListing scores) none lists) order
        head_least scores pairs sorted lists order (Some p) is =
            let at = (order.lists.has p).1 ((lists.has p).0 is.0) in
            first_is scores pairs sorted lists order p is.1 at.0 at.1 at.2

-- ---- the least of a list, one more after another

in_last : (xs : List Scored) (x y : Scored) → IsIn y (xs ++ x ∷ []) → IsIn y xs ⊎ (x ≡ y)
in_last [] x y (inl e) = inr e
in_last [] x y (inr none) = absurd none
in_last (z ∷ xs) x y (inl e) = inl (inl e)
in_last (z ∷ xs) x y (inr later) = elim (in_last xs x y later) as (λ _. IsIn y (z ∷ xs) ⊎ (x ≡ y)) [ inl i ↦ inl (inr i) | inr e ↦ inr e ]

in_before : (xs : List Scored) (x y : Scored) → IsIn y xs → IsIn y (xs ++ x ∷ [])
in_before [] x y none = absurd none
in_before (z ∷ xs) x y (inl e) = inl e
in_before (z ∷ xs) x y (inr later) = inr (in_before xs x y later)

at_last : (xs : List Scored) (x : Scored) → IsIn x (xs ++ x ∷ [])
at_last [] x = inl refl
at_last (z ∷ xs) x = inr (at_last xs x)

not_itself : (x : Scored) → is_lt (scored_cmp x x) ≡ false
not_itself x = false_from_ne_true _ (λ t. not_below_itself x (less_from (scored_cmp x x) t))

-- a pair that goes before the least is the least
pub least_one : (xs : List Scored) (o : Option Scored) (x : Scored) → IsLeastOf xs o → is_first x o ≡ true → IsLeastOf (xs ++ x ∷ []) (Some x)
least_one xs None x none first = (
  in_contains x (xs ++ x ∷ []) (at_last xs x),
  λ pair at. elim (in_last xs x pair (contains_in pair (xs ++ x ∷ []) at)) as (λ _. is_lt (scored_cmp pair x) ≡ false) [
    | inl earlier ↦ absurd (subst (IsIn pair) none earlier)
    | inr e ↦ subst (λ z. is_lt (scored_cmp z x) ≡ false) e (not_itself x)
  ],
)
least_one xs (Some b) x is first = (
  in_contains x (xs ++ x ∷ []) (at_last xs x),
  λ pair at. elim (in_last xs x pair (contains_in pair (xs ++ x ∷ []) at)) as (λ _. is_lt (scored_cmp pair x) ≡ false) [
    | inl earlier ↦ false_from_ne_true _ (λ t.
        true≢false (sym (ap is_lt (scored_total.trans pair x b (less_from (scored_cmp pair x) t) (less_from (scored_cmp x b) first))) ∙ is.1 pair (in_contains pair xs earlier)))
    | inr e ↦ subst (λ z. is_lt (scored_cmp z x) ≡ false) e (not_itself x)
  ],
)

-- and past one that does not it stays
pub least_same : (xs : List Scored) (o : Option Scored) (x : Scored) → IsLeastOf xs o → is_first x o ≡ false → IsLeastOf (xs ++ x ∷ []) o
least_same xs None x none first = absurd (true≢false first)
least_same xs (Some b) x is first = (
  in_contains b (xs ++ x ∷ []) (in_before xs x b (contains_in b xs is.0)),
  λ pair at. elim (in_last xs x pair (contains_in pair (xs ++ x ∷ []) at)) as (λ _. is_lt (scored_cmp pair b) ≡ false) [
    | inl earlier ↦ is.1 pair (in_contains pair xs earlier)
    | inr e ↦ subst (λ z. is_lt (scored_cmp z b) ≡ false) e first
  ],
)

module _ (rule : Rule) (list : List Member) (i : ℕ) (m : Member) (o : Option Scored) (pair : Scored) (within : i < length list) (at : m ≡ get_or list i m) (scored : pair ≡ scored_by rule m)
    (is : IsLeastOf (pairs_by rule (take i list)) o) where
  more : pairs_by rule (take (i + 1) list) ≡ pairs_by rule (take i list) ++ pair ∷ []
  more = one_mapped (scored_by rule) list i m (slice_get-get_or list i m within ∙ ap (λ x. Some x) (sym at)) within ∙ ap (λ p. pairs_by rule (take i list) ++ p ∷ []) (sym scored)

  pub step_one : is_first pair o ≡ true → IsLeastOf (pairs_by rule (take (i + 1) list)) (Some pair)
  step_one first = subst (λ ps. IsLeastOf ps (Some pair)) (sym more) (least_one (pairs_by rule (take i list)) o pair is first)

  pub step_same : is_first pair o ≡ false → IsLeastOf (pairs_by rule (take (i + 1) list)) o
  step_same first = subst (λ ps. IsLeastOf ps o) (sym more) (least_same (pairs_by rule (take i list)) o pair is first)
