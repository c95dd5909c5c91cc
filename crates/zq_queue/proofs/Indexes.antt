-- What changes of a map's pairs make of a list of them in order.
use Rattle.std.proofs.Common.{IsTrue, ap, arith, inl, inr, refl, subst, sym, true≢false, ◌∙◌, ◌↔◌}
use Rattle.std.proofs.lemmas.Cmp.{nat_list_cmp_total}
use Rattle.std.proofs.lemmas.List.{append-nil, get_or_append_left, get_or_default, length-append}
use Rattle.std.proofs.Math.Seq.{get_or-append_seam}
use Rattle.std.proofs.lemmas.List.Sorted.{IsPermutation-append_comm, IsPermutation-append_left, IsPermutation-cons, IsPermutation-insert, IsPermutation-remove, IsPermutation-trans}
use Rattle.std.proofs.lemmas.Option.{none-some, same_Some}
use Rattle.std.specs.FinMap as map
use Rattle.std.specs.FinMap.{FinMap}
use Rattle.std.specs.List.{insert, remove}
use Rattle.std.specs.List.Sorted.{IsPermutation, IsStrictlySortedBy}
use Rattle.std.specs.Ordering.{eq_by_cmp}
use Rattle.std.specs.declared.alloc.Global.{Global}
use Rattle.std.specs.declared.boxed.Box.{Box}
use Rattle.std.specs.Prelude.{Bool, Contains, List, None, Option, Some, [], cond, false, get_or, if◌then◌else◌, length, map as map_of, option_map, suc, true, zero, ℕ, ℤ, ◌++◌, ◌<◌, ◌∷◌, ◌≡◌, ◌≢◌}
use Rattle.zq_model.proofs.Maps.{key_same, same_key}
use Rattle.zq_model.specs.Image.{Entry}
use Rattle.zq_model.specs.Meaning.{Scored, scored_cmp}
use Rattle.zq_posheap.proofs.Entries.{bytes_antisymmetric, option_map-cond}
use Rattle.zq_posheap.proofs.Firsts.{has_later}
use Rattle.zq_posheap.proofs.Listings.{shuffled}
use Rattle.zq_posheap.proofs.ScoresOf.{get-scores_of}
use Rattle.zq_posheap.specs.InOrder.{ListsInOrder}
use Rattle.zq_posheap.specs.Listing.{IsListing, Row, scored_of}
use Rattle.zq_posheap.specs.Members.{Scores, scores_of}
use Rattle.zq_queue.proofs.Helds.{by_test, get_inserted, get_removed, same_at_each}
use Rattle.zq_queue.proofs.Listeds.{contains_in, in_contains, order_one}
use Rattle.zq_queue.specs.Entries.{bytes_cmp}
use Rattle.zq_queue.specs.Indexed.{IsIndexOf}
use Rattle.zq_queue.specs.Queued.{Held}
use Rattle.zq_ranked.proofs.Sorted.{rank_there, sorted_insert, sorted_remove}
use Rattle.zq_ranked.specs.Order.{rank_of}
use Rattle.zq_ranked.specs.declared.ranked.Ranked.{Ranked}

-- ---- an index

-- what an index lists, where there is one
pub index_lists : (scores : Scores) (index : Option (Box Ranked Global)) (box : Box Ranked Global) → index ≡ Some box → IsIndexOf scores index → (pairs : List Scored) → ListsInOrder scores pairs → box.value ≡ pairs
index_lists scores index box is its pairs order = order_one scores box.value pairs (subst (IsIndexOf scores) is its) order

-- ---- the scores of what is held

abbrev score_beside : ℤ × Entry → ℤ
score_beside p = p.0

pub scores_of-insert : (held : Held) (m : List ℕ) (p : ℤ × Entry) → scores_of (map.insert held m p) ≡ map.insert (scores_of held) m p.0
scores_of-insert held m p = same_at_each _ _ (λ q.
    get-scores_of (map.insert held m p) q ∙ ap (option_map score_beside) (get_inserted held m p q) ∙ option_map-cond score_beside (eq_by_cmp bytes_cmp q m) (Some p) (map.get held q)
    ∙ ap (cond (eq_by_cmp bytes_cmp q m) (Some p.0)) (sym (get-scores_of held q)) ∙ sym (get_inserted (scores_of held) m p.0 q))

pub scores_of-remove : (held : Held) (m : List ℕ) → scores_of (map.remove held m) ≡ map.remove (scores_of held) m
scores_of-remove held m = same_at_each _ _ (λ q.
    get-scores_of (map.remove held m) q ∙ ap (option_map score_beside) (get_removed held m q) ∙ option_map-cond score_beside (eq_by_cmp bytes_cmp q m) None (map.get held q)
    ∙ ap (cond (eq_by_cmp bytes_cmp q m) None) (sym (get-scores_of held q)) ∙ sym (get_removed (scores_of held) m q))

pub scores_of-empty : scores_of {V = Entry} map.empty ≡ map.empty
scores_of-empty = same_at_each _ _ (λ q. get-scores_of map.empty q ∙ ap (option_map score_beside) (map.get-empty bytes_cmp q) ∙ sym (map.get-empty bytes_cmp q))

-- a member that is not held has no score, and one that is has its own
pub no_score : (held : Held) (m : List ℕ) → map.get held m ≡ None → map.get (scores_of held) m ≡ None
no_score held m none = get-scores_of held m ∙ ap (option_map score_beside) none

pub its_score : (held : Held) (m : List ℕ) (p : ℤ × Entry) → map.get held m ≡ Some p → map.get (scores_of held) m ≡ Some p.0
its_score held m p some = get-scores_of held m ∙ ap (option_map score_beside) some

module _ {X : Type 0} (scores : FinMap bytes_cmp X) (m : List ℕ) (x : X) where
  itself : eq_by_cmp bytes_cmp m m ≡ true
  itself = key_same nat_list_cmp_total m m refl

  -- a score that a member has already
  pub inserted_same : map.get scores m ≡ Some x → map.insert scores m x ≡ scores
  inserted_same is = same_at_each _ _ (λ q. get_inserted scores m x q ∙ by_test scores m q (Some x) (λ o. o ≡ map.get scores q) (λ e. sym (ap (map.get scores) e ∙ is)) refl)

  -- what is put where it was taken out
  pub inserted_again : map.insert (map.remove scores m) m x ≡ map.insert scores m x
  inserted_again = same_at_each _ _ (λ q.
      get_inserted (map.remove scores m) m x q ∙ by q (eq_by_cmp bytes_cmp q m) refl ∙ sym (get_inserted scores m x q))
    where
      by : (q : List ℕ) (b : Bool) → eq_by_cmp bytes_cmp q m ≡ b → cond (eq_by_cmp bytes_cmp q m) (Some x) (map.get (map.remove scores m) q) ≡ cond (eq_by_cmp bytes_cmp q m) (Some x) (map.get scores q)
      by q true e = ap (λ t. cond t (Some x) (map.get (map.remove scores m) q)) e ∙ sym (ap (λ t. cond t (Some x) (map.get scores q)) e)
      by q false e = ap (cond (eq_by_cmp bytes_cmp q m) (Some x)) (get_removed scores m q ∙ ap (λ t. cond t None (map.get scores q)) e)

  pub got_removed : map.get (map.remove scores m) m ≡ None
  got_removed = get_removed scores m m ∙ ap (λ t. cond t None (map.get scores m)) itself

  -- ---- one pair more or less

  abbrev pub its : X × List ℕ
  its = (x, m)

  -- with a pair of a new member
  pub listing_more : (xs : List (X × List ℕ)) → map.get scores m ≡ None → IsListing scores xs → IsListing (map.insert scores m x) (its ∷ xs)
  listing_more xs none lists = record { has = λ z. (there z, back z); once = apart }
    where
      there : (z : X × List ℕ) → Contains (its ∷ xs) z → map.get (map.insert scores m x) z.1 ≡ Some z.0
      there z at = get_inserted scores m x z.1 ∙ (elim (contains_in z (its ∷ xs) at) [
        | inl e ↦ subst (λ (y : X × List ℕ). cond (eq_by_cmp bytes_cmp y.1 m) (Some x) (map.get scores y.1) ≡ Some y.0) e (ap (λ t. cond t (Some x) (map.get scores m)) itself)
        | inr later ↦
            let got = (lists.has z).0 (in_contains z xs later) in
            by_test scores m z.1 (Some x) (λ o. o ≡ Some z.0) (λ e. absurd (none-some z.0 (sym (ap (map.get scores) e ∙ none) ∙ got))) got
      ])

      back : (z : X × List ℕ) → map.get (map.insert scores m x) z.1 ≡ Some z.0 → Contains (its ∷ xs) z
      back z got = elim (eq_by_cmp bytes_cmp z.1 m) as (λ b. eq_by_cmp bytes_cmp z.1 m ≡ b → cond b (Some x) (map.get scores z.1) ≡ Some z.0 → Contains (its ∷ xs) z) [
        | true ↦ λ e is. in_contains z (its ∷ xs) (inl (λ k. (same_Some x z.0 is k, sym (same_key bytes_antisymmetric z.1 m e) k)))
        | false ↦ λ e is. has_later its xs z ((lists.has z).1 is)
      ] refl (sym (get_inserted scores m x z.1) ∙ got)

      apart : (i j : ℕ) (d : X × List ℕ) → i < j → j < length (its ∷ xs) → (get_or (its ∷ xs) i d).1 ≢ (get_or (its ∷ xs) j d).1
      apart i zero d lo within same = absurd (omega (arith, lo))
      apart zero (suc j) d lo within same =
          let z : X × List ℕ = get_or xs j d in
          let inside : j < length xs = omega (arith, within) in
          none-some z.0 (sym (ap (map.get scores) (sym same) ∙ none) ∙ (lists.has z).0 (j, inside, get_or_default xs j z d inside))
      apart (suc i) (suc j) d lo within same = lists.once i j d (omega (arith, lo)) (omega (arith, within)) same

  -- without a member's pair
  pub listing_less : (xs : List (X × List ℕ)) → IsListing scores (its ∷ xs) → IsListing (map.remove scores m) xs
  listing_less xs lists = record { has = λ z. (there z, back z); once = λ i j d lo within same. lists.once (suc i) (suc j) d (omega (arith, lo)) (omega (arith, within)) same }
    where
      there : (z : X × List ℕ) → Contains xs z → map.get (map.remove scores m) z.1 ≡ Some z.0
      there z at = get_removed scores m z.1 ∙ by_test scores m z.1 None (λ o. o ≡ Some z.0)
          (λ e. absurd (lists.once 0 (suc at.0) z (omega arith) (omega (arith, at.1)) (sym (ap (λ (y : X × List ℕ). y.1) at.2 ∙ e)))) ((lists.has z).0 (has_later its xs z at))

      back : (z : X × List ℕ) → map.get (map.remove scores m) z.1 ≡ Some z.0 → Contains xs z
      back z got = elim (eq_by_cmp bytes_cmp z.1 m) as (λ b. eq_by_cmp bytes_cmp z.1 m ≡ b → cond b None (map.get scores z.1) ≡ Some z.0 → Contains xs z) [
        | true ↦ λ e is. absurd (none-some z.0 is)
        | false ↦ λ e is. elim (contains_in z (its ∷ xs) ((lists.has z).1 is)) [
          | inl same ↦ absurd (true≢false (sym (key_same nat_list_cmp_total z.1 m (sym (ap (λ (y : X × List ℕ). y.1) same))) ∙ e))
          | inr later ↦ in_contains z xs later
        ]
      ] refl (sym (get_removed scores m z.1) ∙ got)

module _ (scores : Scores) (m : List ℕ) (x : ℤ) (xs : List Scored) (order : ListsInOrder scores xs) where
  -- a pair of a new member is put in
  pub put_in_order : map.get scores m ≡ None → (added : Bool) (ys : List Scored) → ys ≡ (if added then insert xs (rank_of (x, m) xs) (x, m) else xs) →
      (IsTrue added ↔ (Contains xs (x, m) → ⊥)) → ListsInOrder (map.insert scores m x) ys
  put_in_order none added ys is absent =
      let new : Contains xs (x, m) → ⊥ = λ at. none-some x (sym none ∙ (order.lists.has (x, m)).0 at) in
      subst (ListsInOrder (map.insert scores m x)) (sym (is ∙ ap (λ b. if b then insert xs (rank_of (x, m) xs) (x, m) else xs) (absent.1 new))) (record {
        lists = shuffled (map.insert scores m x) ((x, m) ∷ xs) (listing_more scores m x xs none order.lists) _ (IsPermutation-insert xs (rank_of (x, m) xs) (x, m));
        rises = sorted_insert (x, m) xs order.rises new;
      })

  -- a member's pair is taken out
  pub taken_in_order : map.get scores m ≡ Some x → (taken : Bool) (ys : List Scored) → ys ≡ (if taken then remove xs (rank_of (x, m) xs) else xs) →
      (IsTrue taken ↔ Contains xs (x, m)) → ListsInOrder (map.remove scores m) ys
  taken_in_order some taken ys is present =
      let at : Contains xs (x, m) = (order.lists.has (x, m)).1 some in
      let rank : rank_of (x, m) xs ≡ at.0 = rank_there xs order.rises (x, m) at.0 at.1 at.2 in
      subst (ListsInOrder (map.remove scores m)) (sym (is ∙ ap (λ b. if b then remove xs (rank_of (x, m) xs) else xs) (present.1 at) ∙ ap (remove xs) rank)) (record {
        lists = listing_less scores m x (remove xs at.0) (shuffled scores xs order.lists _ (IsPermutation-remove xs at.0 (x, m) at.1 (sym at.2)));
        rises = sorted_remove xs at.0 order.rises;
      })

-- ---- pairs put in one after another

module _ (scores : Scores) (xs : List Scored) (t : Scored) (rest : List Scored) (lists : IsListing scores (xs ++ t ∷ rest)) where
  within : length xs < length (xs ++ t ∷ rest)
  within = omega (arith, length-append xs (t ∷ rest))

  -- the next pair is the map's
  next_got : map.get scores t.1 ≡ Some t.0
  next_got = (lists.has t).0 (length xs, within, get_or-append_seam xs t rest t)

  next_new : Contains xs t → ⊥
  next_new at = lists.once at.0 (length xs) t at.1 within (ap (λ (y : Scored). y.1) (get_or_append_left xs (t ∷ rest) t at.0 at.1 ∙ at.2 ∙ sym (get_or-append_seam xs t rest t)))

  next_moves : IsPermutation (xs ++ t ∷ rest) (insert xs (rank_of t xs) t ++ rest)
  next_moves = IsPermutation-trans (xs ++ t ∷ rest) (t ∷ (rest ++ xs)) _ (IsPermutation-append_comm xs (t ∷ rest))
      (IsPermutation-trans (t ∷ (rest ++ xs)) (t ∷ (xs ++ rest)) _ (IsPermutation-cons t (rest ++ xs) (xs ++ rest) (IsPermutation-append_comm rest xs))
      (IsPermutation-append_left rest (t ∷ xs) (insert xs (rank_of t xs) t) (IsPermutation-insert xs (rank_of t xs) t)))

  module _ (added : Bool) (ys : List Scored) (is : ys ≡ (if added then insert xs (rank_of t xs) t else xs)) (absent : IsTrue added ↔ (Contains xs t → ⊥)) where
    next_in : ys ≡ insert xs (rank_of t xs) t
    next_in = is ∙ ap (λ b. if b then insert xs (rank_of t xs) t else xs) (absent.1 next_new)

    next_lists : IsListing scores (ys ++ rest)
    next_lists = subst (λ zs. IsListing scores (zs ++ rest)) (sym next_in) (shuffled scores (xs ++ t ∷ rest) lists _ next_moves)

    next_rises : IsStrictlySortedBy scored_cmp xs → IsStrictlySortedBy scored_cmp ys
    next_rises up = subst (IsStrictlySortedBy scored_cmp) (sym next_in) (sorted_insert t xs up next_new)

module _ (scores : Scores) (xs : List Scored) (left rest : List (Row Entry)) (q : Row Entry) (next : left ≡ q ∷ rest) (lists : IsListing scores (xs ++ map_of scored_of left)) where
  lists_next : IsListing scores (xs ++ scored_of q ∷ map_of scored_of rest)
  lists_next = subst (λ zs. IsListing scores (xs ++ map_of scored_of zs)) next lists

  -- the next row's score is the map's
  pub row_got : map.get scores q.1 ≡ Some q.0.0
  row_got = next_got scores xs (scored_of q) (map_of scored_of rest) lists_next

  module _ (added : Bool) (ys : List Scored) (is : ys ≡ (if added then insert xs (rank_of (scored_of q) xs) (scored_of q) else xs)) (absent : IsTrue added ↔ (Contains xs (scored_of q) → ⊥)) where
    -- it goes from those that are left to those that are in
    pub row_lists : IsListing scores (ys ++ map_of scored_of rest)
    row_lists = next_lists scores xs (scored_of q) (map_of scored_of rest) lists_next added ys is absent

    pub row_rises : IsStrictlySortedBy scored_cmp xs → IsStrictlySortedBy scored_cmp ys
    row_rises = next_rises scores xs (scored_of q) (map_of scored_of rest) lists_next added ys is absent

-- where none is left
pub all_in : (scores : Scores) (xs : List Scored) (left : List (Row Entry)) → left ≡ [] → IsListing scores (xs ++ map_of scored_of left) → IsStrictlySortedBy scored_cmp xs → ListsInOrder scores xs
all_in scores xs left none lists up = record { lists = subst (IsListing scores) ((λ k. xs ++ map_of scored_of (none k)) ∙ append-nil xs) lists; rises = up }
