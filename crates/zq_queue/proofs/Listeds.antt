-- The list of a key's queue: who stands in it, and that it is the heap's pairs in order.
use Rattle.std.proofs.Common.{ap, arith, cond, false, inl, inr, refl, subst, sym, true, ◌∙◌}
use Rattle.std.proofs.lemmas.Bool.{and_parts, cond-false, cond-true, false_from_ne_true}
use Rattle.std.proofs.lemmas.Cmp.{nat_list_cmp_total, tied_itself}
use Rattle.std.proofs.lemmas.List.{get_or_default}
use Rattle.std.proofs.lemmas.Map.Keys.{Less-from_sorted}
use Rattle.std.proofs.lemmas.Option.{none-some, same_Some}
use Rattle.std.specs.FinMap.{FinMap, entries, entries_sorted, get, get-entries, is_sorted, len}
use Rattle.std.specs.FinMap.Entries.{below_all, find}
use Rattle.std.specs.List.{AllByRecursion}
use Rattle.std.specs.List.Sorted.{IsStrictlySortedBy}
use Rattle.std.specs.Ordering.{eq_by_cmp, is_lt}
use Rattle.std.specs.Prelude.{Contains, List, None, Some, [], filter_map, get_or, length, option_map, unwrap_or, ℕ, ℤ, ◌∷◌, ◌≡◌, ◌⊎◌}
use Rattle.std.specs.declared.cmp.Ordering.TheVariants.{Less}
use Rattle.zq_model.proofs.Listing.{in_filter_map, in_filter_map_from, key_from_list, key_of_list}
use Rattle.zq_model.proofs.Maps.{key_same, same_key}
use Rattle.zq_model.proofs.Queued.{queued_score, score_queued, some_score, with_score}
use Rattle.zq_model.proofs.Rising.{is_true, less_from, not_below_itself, rising_keys, rising_one, scored_exact, scored_total}
use Rattle.zq_model.specs.Image.{Entry, Members, entry_at, no_additions}
use Rattle.zq_model.specs.Meaning.{IsRising, Scored, scored_cmp}
use Rattle.zq_model.specs.Queue.{queue_of}
use Rattle.zq_model.specs.Rule.{Rule}
use Rattle.zq_model.specs.Score.{score_of}
use Rattle.zq_model.specs.Sets.{IsIn}
use Rattle.zq_posheap.proofs.Entries.{bytes_antisymmetric}
use Rattle.zq_posheap.proofs.Firsts.{first_or_later, has_first, has_later}
use Rattle.zq_posheap.proofs.Listings.{length-listing}
use Rattle.zq_posheap.proofs.ScoresOf.{get-scores_of}
use Rattle.zq_posheap.specs.InOrder.{ListsInOrder}
use Rattle.zq_posheap.specs.Listing.{IsListing}
use Rattle.zq_posheap.specs.Members.{Scores, scores_of}
use Rattle.zq_queue.proofs.Helds.{entries_of-held_from, held_from, len-held_from, len_mapped, score_held, score_of_nothing, scored-held_from}
use Rattle.zq_queue.specs.Entries.{Entries, NoneIsBare, bytes_cmp, entry_in}
use Rattle.zq_queue.specs.Listed.{listed, scored_in}
use Rattle.zq_queue.specs.Queued.{AreScored, Held, entries_of}

-- ---- the entries of a map

not_below : (q : List ℕ) → bytes_cmp q q ≡ Less → ⊥
not_below q below = let tied = tied_itself nat_list_cmp_total q in cc

module _ {X : Type 0} where
  below_later : (q : List ℕ) (es : List (List ℕ × X)) → below_all bytes_cmp q es ≡ true → (e : List ℕ × X) → IsIn e es → bytes_cmp q e.0 ≡ Less
  below_later q [] below e i = absurd i
  below_later q (x ∷ es) below e i =
      let parts = and_parts (is_lt (bytes_cmp q x.0)) (below_all bytes_cmp q es) below in
      elim i [
        | inl same ↦ less_from (bytes_cmp q e.0) (subst (λ (z : List ℕ × X). is_lt (bytes_cmp q z.0) ≡ true) same parts.0)
        | inr later ↦ below_later q es parts.1 e later
      ]

  pub pair_found : (es : List (List ℕ × X)) → is_sorted bytes_cmp es ≡ true → (e : List ℕ × X) → IsIn e es → find bytes_cmp e.0 es ≡ Some e.1
  pair_found [] sorted e i = absurd i
  pair_found (x ∷ es) sorted e i =
      let parts = and_parts (below_all bytes_cmp x.0 es) (is_sorted bytes_cmp es) sorted in
      elim i [
        | inl same ↦ subst (λ (z : List ℕ × X). find bytes_cmp z.0 (x ∷ es) ≡ Some z.1) same (cond-true (eq_by_cmp bytes_cmp x.0 x.0) _ _ (key_same nat_list_cmp_total x.0 x.0 refl))
        | inr later ↦
            let below : bytes_cmp x.0 e.0 ≡ Less = below_later x.0 es parts.0 e later in
            cond-false (eq_by_cmp bytes_cmp e.0 x.0) _ _ (false_from_ne_true _ (λ tied.
            not_below x.0 (subst (λ z. bytes_cmp x.0 z ≡ Less) (same_key bytes_antisymmetric e.0 x.0 tied) below)))
            ∙ pair_found es parts.1 e later
      ]

  pub pair_there : (es : List (List ℕ × X)) (q : List ℕ) (e : X) → find bytes_cmp q es ≡ Some e → IsIn (q, e) es
  pair_there [] q e is = absurd (none-some e is)
  pair_there (x ∷ es) q e is =
      elim (eq_by_cmp bytes_cmp q x.0) as (λ b. eq_by_cmp bytes_cmp q x.0 ≡ b → cond b (Some x.1) (find bytes_cmp q es) ≡ Some e → IsIn (q, e) (x ∷ es)) [
        | true ↦ λ tied f. inl (λ i. (sym (same_key bytes_antisymmetric q x.0 tied) i, same_Some x.1 e f i))
        | false ↦ λ _ f. inr (pair_there es q e f)
      ] refl is

  -- a map has what it lists, and lists what it has
  pub entry_got : (m : FinMap bytes_cmp X) (e : List ℕ × X) → IsIn e (entries m) → get m e.0 ≡ Some e.1
  entry_got m e i = get-entries m e.0 ∙ pair_found (entries m) (is_true _ (entries_sorted m)) e i

  pub entry_there : (m : FinMap bytes_cmp X) (q : List ℕ) (e : X) → get m q ≡ Some e → IsIn (q, e) (entries m)
  entry_there m q e is = pair_there (entries m) q e (sym (get-entries m q) ∙ is)

-- ---- who stands in the list

module _ (rule : Rule) (held : Entries) where
  -- what stands in the list is a member with its score
  pub listed_score : (x : ℤ) (m : List ℕ) → IsIn (x, m) (listed rule held) → score_of rule (entry_in held m) ≡ Some x
  listed_score x m here =
      let inside = key_of_list scored_total scored_exact (λ _. tt) (filter_map (scored_in rule) (entries held)) (x, m) here in
      let e = in_filter_map_from (scored_in rule) (x, m) (entries held) inside in
      let s = some_score (score_of rule e.0.1) e.0.0 m x e.2 in
      ap (λ o. score_of rule (unwrap_or o no_additions)) (ap (get held) (sym s.1) ∙ entry_got held e.0 e.1) ∙ s.0

  -- each member that has a score stands there with it
  pub score_listed : (x : ℤ) (m : List ℕ) → score_of rule (entry_in held m) ≡ Some x → IsIn (x, m) (listed rule held)
  score_listed x m is =
      elim (get held m) as (λ o. get held m ≡ o → score_of rule (unwrap_or o no_additions) ≡ Some x → IsIn (x, m) (listed rule held)) [
        | None ↦ λ _ s. absurd (none-some x (sym (score_of_nothing rule) ∙ s))
        | Some e ↦ λ got s. key_from_list scored_total scored_exact (λ _. tt) (filter_map (scored_in rule) (entries held)) (x, m)
            (in_filter_map (scored_in rule) (x, m) (m, e) (entries held) (entry_there held m e got) (ap (option_map (with_score m)) s))
      ] refl is

  pub listed_rises : IsRising (listed rule held)
  listed_rises = rising_keys _

  -- it is the key's queue in the model, over members of which these are the entries of the key
  pub queue_listed : (key : List ℕ) (members : Members) → ((m : List ℕ) → get members (key, m) ≡ get held m) → queue_of rule key (members ∷ []) ≡ listed rule held
  queue_listed key members same = rising_one _ _ (rising_keys _) (rising_keys _)
      (λ z here.
      let f = queued_score rule key (members ∷ []) z.0 z.1 here in
      score_listed z.0 z.1 (ap (λ o. score_of rule (unwrap_or o no_additions)) (sym (same z.1)) ∙ only f.0 f.1 z.1 z.0 f.2))
      (λ z here. score_queued rule key (members ∷ []) z.0 z.1 members (inl refl) (ap (λ o. score_of rule (unwrap_or o no_additions)) (same z.1) ∙ listed_score z.0 z.1 here))
    where
      only : (a : Members) → IsIn a (members ∷ []) → (m : List ℕ) (x : ℤ) → score_of rule (entry_at a (key, m)) ≡ Some x → score_of rule (entry_at members (key, m)) ≡ Some x
      only a (inl e) m x is = ap (λ b. score_of rule (entry_at b (key, m))) e ∙ is
      only a (inr none) m x is = absurd none

-- ---- lists in order

pub contains_in : {X : Type 0} (x : X) (xs : List X) → Contains xs x → IsIn x xs
contains_in x [] at = absurd (omega (arith, at.1))
contains_in x (y ∷ xs) at = elim (first_or_later y xs x at) as (λ _. (y ≡ x) ⊎ IsIn x xs) [ inl e ↦ inl e | inr later ↦ inr (contains_in x xs later) ]

pub in_contains : {X : Type 0} (x : X) (xs : List X) → IsIn x xs → Contains xs x
in_contains x [] here = absurd here
in_contains x (y ∷ xs) (inl e) = subst (Contains (y ∷ xs)) e (has_first y xs)
in_contains x (y ∷ xs) (inr later) = has_later y xs x (in_contains x xs later)

all_from_in : {X : Type 0} (P : X → Type 0) (xs : List X) → ((x : X) → IsIn x xs → P x) → AllByRecursion P xs
all_from_in P [] all = tt
all_from_in P (x ∷ xs) all = (all x (inl refl), all_from_in P xs (λ y i. all y (inr i)))

in_from_all : {X : Type 0} (P : X → Type 0) (xs : List X) → AllByRecursion P xs → (x : X) → IsIn x xs → P x
in_from_all P [] all x i = absurd i
in_from_all P (y ∷ xs) all x (inl e) = subst P e all.0
in_from_all P (y ∷ xs) all x (inr i) = in_from_all P xs all.1 x i

pub sorted_from_rising : (xs : List Scored) → IsRising xs → IsStrictlySortedBy scored_cmp xs
unfolding IsStrictlySortedBy
sorted_from_rising [] up = tt
sorted_from_rising (x ∷ xs) up = (all_from_in _ xs up.0, sorted_from_rising xs up.1)

pub rising_from_sorted : (xs : List Scored) → IsStrictlySortedBy scored_cmp xs → IsRising xs
unfolding IsStrictlySortedBy
rising_from_sorted [] up = tt
rising_from_sorted (x ∷ xs) up = (in_from_all _ xs up.0, rising_from_sorted xs up.1)

-- two lists of one map's pairs in order are one
pub order_one : (scores : Scores) (xs ys : List Scored) → ListsInOrder scores xs → ListsInOrder scores ys → xs ≡ ys
order_one scores xs ys a b = rising_one xs ys (rising_from_sorted xs a.rises) (rising_from_sorted ys b.rises)
    (λ z i. contains_in z ys ((b.lists.has z).1 ((a.lists.has z).0 (in_contains z xs i))))
    (λ z i. contains_in z xs ((a.lists.has z).1 ((b.lists.has z).0 (in_contains z ys i))))

module _ (rule : Rule) (held : Held) (all : AreScored rule held) where
  abbrev queue : List Scored
  queue = listed rule (entries_of held)

  scores_are : (m : List ℕ) → get (scores_of held) m ≡ score_of rule (entry_in (entries_of held) m)
  scores_are m = get-scores_of held m ∙ sym (score_held rule held all m)

  listed_got : (z : Scored) → Contains queue z → get (scores_of held) z.1 ≡ Some z.0
  listed_got z at = scores_are z.1 ∙ listed_score rule (entries_of held) z.0 z.1 (contains_in z queue at)

  listed_listing : IsListing (scores_of held) queue
  listed_listing = record {
    has = λ z. (listed_got z, λ got. in_contains z queue (score_listed rule (entries_of held) z.0 z.1 (sym (scores_are z.1) ∙ got)));
    once = λ i j d lo within same.
        let x : Scored = get_or queue i d in
        let y : Scored = get_or queue j d in
        let x_in : Contains queue x = (i, omega (arith, lo, within), get_or_default queue i x d (omega (arith, lo, within))) in
        let y_in : Contains queue y = (j, within, get_or_default queue j y d within) in
        let score : x.0 ≡ y.0 = same_Some x.0 y.0 (sym (listed_got x x_in) ∙ ap (get (scores_of held)) same ∙ listed_got y y_in) in
        let one : x ≡ y = λ k. (score k, same k) in
        let less : scored_cmp x y ≡ Less = Less-from_sorted scored_cmp queue i j d (sorted_from_rising queue (listed_rises rule (entries_of held))) lo within in
        not_below_itself x (subst (λ z. scored_cmp x z ≡ Less) (sym one) less);
  }

  -- the list is the heap's pairs in order
  pub listed_in_order : ListsInOrder (scores_of held) queue
  listed_in_order = record { lists = listed_listing; rises = sorted_from_rising queue (listed_rises rule (entries_of held)) }

  -- and no other list is
  pub is_listed : (pairs : List Scored) → ListsInOrder (scores_of held) pairs → pairs ≡ queue
  is_listed pairs order = order_one (scores_of held) pairs queue order listed_in_order

  pub length-listed : length queue ≡ len held
  length-listed = length-listing (scores_of held) queue listed_listing ∙ len_mapped (λ (p : ℤ × Entry). p.0) held

-- ---- of entries of which none is bare

module _ (rule : Rule) (m : Entries) (all : NoneIsBare m) where
  pub length-listed_entries : length (listed rule m) ≡ len m
  length-listed_entries = ap (λ e. length (listed rule e)) (sym (entries_of-held_from rule m)) ∙ length-listed rule (held_from rule m) (scored-held_from rule m all) ∙ len-held_from rule m
