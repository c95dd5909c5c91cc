-- Where a member stands in its key's queue, counted from the first and from the last.
use Rattle.std.proofs.Common.{ap, arith, inl, inr, refl, subst, sym, ◌∙◌}
use Rattle.std.proofs.lemmas.Bool.{cases_lt, cond-false, cond-true, false_from_ne_true, true≢false}
use Rattle.std.proofs.lemmas.Bool.Decides.{Decides-int_eq, nat_tests}
use Rattle.std.proofs.lemmas.Cmp.{tied_itself}
use Rattle.std.proofs.lemmas.List.{get_or-reverse, get_or_default, length-reverse}
use Rattle.std.proofs.lemmas.List.Sums.{position_or_len_is, sum_by-cons}
use Rattle.std.proofs.lemmas.Option.{none-some, same_Some}
use Rattle.std.specs.Bool.{Decides}
use Rattle.std.specs.FinMap.{get}
use Rattle.std.specs.List.{position, position_or_len}
use Rattle.std.specs.Option.{option_eq}
use Rattle.std.specs.Ordering.{int_eq, is_lt, ordering_reverse}
use Rattle.std.specs.Prelude.{Bool, Contains, List, None, Option, Some, [], cond, count_by, false, get_or, length, nat_lt, option_map, pos, reverse, suc, true, zero, ℕ, ℤ, ◌+◌, ◌-◌, ◌<◌, ◌∷◌, ◌≡◌, ◌≢◌}
use Rattle.std.specs.declared.cmp.Ordering.{Ordering}
use Rattle.std.specs.declared.cmp.Ordering.TheVariants.{Equal, Greater, Less}
use Rattle.zq_model.proofs.Places.{bytes_same, same_bytes}
use Rattle.zq_model.proofs.Rising.{not_below_itself, scored_exact, scored_total}
use Rattle.zq_model.specs.Image.{Entry}
use Rattle.zq_model.specs.Meaning.{IsRising, Scored, scored_cmp}
use Rattle.zq_model.specs.Rule.{Rule}
use Rattle.zq_model.specs.Score.{score_of}
use Rattle.zq_model.specs.Sets.{IsIn}
use Rattle.zq_posheap.proofs.Lists.{option_map_some}
use Rattle.zq_posheap.proofs.ScoresOf.{get-scores_of}
use Rattle.zq_posheap.specs.Members.{scores_of}
use Rattle.zq_queue.proofs.Listeds.{contains_in, listed_in_order, listed_rises, listed_score, score_listed}
use Rattle.zq_queue.proofs.Helds.{entries_of-held_from, held_from, score_held, scored-held_from}
use Rattle.zq_queue.specs.Entries.{Entries, NoneIsBare, entry_in}
use Rattle.zq_queue.specs.Listed.{is_of_member, listed}
use Rattle.zq_queue.specs.Queued.{AreScored, Held, entries_of}

-- ---- the first place that passes

module _ {X : Type 0} (p : X → Bool) (xs : List X) where
  from_place : (n : ℕ) → position_or_len p xs ≡ n → position p xs ≡ cond (nat_lt n (length xs)) (Some n) None
  from_place n is = ap (λ i. cond (nat_lt i (length xs)) (Some i) None) is

  pub position_at : (i : ℕ) (d : X) → i < length xs → ((k : ℕ) → k < i → p (get_or xs k d) ≡ false) → p (get_or xs i d) ≡ true → position p xs ≡ Some i
  position_at i d within before here =
      let test : nat_lt i (length xs) ≡ true = grind (arith, nat_tests) in
      from_place i (position_or_len_is p xs i d (omega (arith, within)) before (λ _. here)) ∙ cond-true _ (Some i) None test

  pub position_none : (d : X) → ((k : ℕ) → k < length xs → p (get_or xs k d) ≡ false) → position p xs ≡ None
  position_none d none =
      let test : nat_lt (length xs) (length xs) ≡ false = grind (arith, nat_tests) in
      from_place (length xs) (position_or_len_is p xs (length xs) d (omega arith) none (λ l. absurd (omega (arith, l)))) ∙ cond-false _ (Some (length xs)) None test

-- ---- a rising list

not_less : (x y : Scored) → scored_cmp y x ≡ Less → is_lt (scored_cmp x y) ≡ false
not_less x y less = ap is_lt (scored_total.antisymm x y ∙ ap ordering_reverse less)

abbrev goes_before : Scored → Scored → Bool
goes_before y x = is_lt (scored_cmp x y)

count_none : (xs : List Scored) (y : Scored) → ((x : Scored) → IsIn x xs → scored_cmp y x ≡ Less) → count_by (goes_before y) xs ≡ 0
count_none [] y above = refl
count_none (x ∷ xs) y above =
    sum_by-cons (λ z. cond (goes_before y z) 1 0) x xs ∙ (λ k. cond (not_less x y (above x (inl refl)) k) 1 0 + count_none xs y (λ z i. above z (inr i)) k)

-- as many go before an element as its index says
count_index : (xs : List Scored) → IsRising xs → (i : ℕ) (d : Scored) → i < length xs → count_by (goes_before (get_or xs i d)) xs ≡ i
count_index [] up i d within = absurd (omega (arith, within))
count_index (x ∷ xs) up zero d within =
    sum_by-cons (λ z. cond (goes_before x z) 1 0) x xs ∙ (λ k. cond (ap is_lt (tied_itself scored_total x) k) 1 0 + count_none xs x up.0 k)
count_index (x ∷ xs) up (suc i) d within =
    let y : Scored = get_or xs i d in
    let l : i < length xs = omega (arith, within) in
    let less : scored_cmp x y ≡ Less = up.0 y (contains_in y xs (i, l, get_or_default xs i y d l)) in
    let e : count_by (goes_before y) (x ∷ xs) ≡ 1 + i
    = sum_by-cons (λ z. cond (goes_before y z) 1 0) x xs ∙ (λ k. cond (ap is_lt less k) 1 0 + count_index xs up.1 i d l k) in
    omega (arith, e)

-- ---- those before a pair and those after it

abbrev goes_after : Scored → Scored → Bool
goes_after y x = is_lt (scored_cmp y x)

abbrev around : Scored → Scored → ℕ
around y x = cond (goes_after y x) 1 0 + cond (goes_before y x) 1 0

-- another pair goes before it or after it
around_other : (x y : Scored) (o : Ordering) → scored_cmp x y ≡ o → (x ≡ y → ⊥) → around y x ≡ 1
around_other x y Less is other =
    (λ k. cond (not_less y x is k) 1 0 + cond (ap is_lt is k) 1 0)
around_other x y Equal is other = absurd (other (scored_exact x y is))
around_other x y Greater is other =
    (λ k. cond (ap is_lt (scored_total.antisymm y x ∙ ap ordering_reverse is) k) 1 0 + cond (ap is_lt is k) 1 0)

around_itself : (x y : Scored) → x ≡ y → around y x ≡ 0
around_itself x y same = ap (λ z. around z x) (sym same) ∙ (λ k. cond (ap is_lt (tied_itself scored_total x) k) 1 0 + cond (ap is_lt (tied_itself scored_total x) k) 1 0)

abbrev all_around : Scored → List Scored → ℕ
all_around y xs = count_by (goes_after y) xs + count_by (goes_before y) xs

around_more : (x y : Scored) (xs : List Scored) → all_around y (x ∷ xs) ≡ around y x + all_around y xs
around_more x y xs =
    let after = sum_by-cons (λ z. cond (goes_after y z) 1 0) x xs in
    let before = sum_by-cons (λ z. cond (goes_before y z) 1 0) x xs in
    omega (arith, after, before)

around_none : (xs : List Scored) (y : Scored) → (IsIn y xs → ⊥) → all_around y xs ≡ length xs
around_none [] y none = refl
around_none (x ∷ xs) y none =
    let first = around_other x y (scored_cmp x y) refl (λ same. none (inl same)) in
    let rest = around_none xs y (λ later. none (inr later)) in
    omega (arith, around_more x y xs, first, rest)

around_one : (xs : List Scored) (y : Scored) → IsRising xs → IsIn y xs → all_around y xs + 1 ≡ length xs
around_one [] y up here = absurd here
around_one (x ∷ xs) y up (inl same) =
    let first = around_itself x y same in
    let rest = around_none xs y (λ later. not_below_itself x (subst (λ z. scored_cmp x z ≡ Less) (sym same) (up.0 y later))) in
    omega (arith, around_more x y xs, first, rest)
around_one (x ∷ xs) y up (inr later) =
    let first = around_other x y (scored_cmp x y) refl (λ same. not_below_itself x (subst (λ z. scored_cmp x z ≡ Less) (sym same) (up.0 y later))) in
    let rest = around_one xs y up.1 later in
    omega (arith, around_more x y xs, first, rest)

module _ (rule : Rule) (entries : Entries) (x : ℤ) (m : List ℕ) where
  -- where the pair stands, all others go before it or after it
  pub others_around : score_of rule (entry_in entries m) ≡ Some x →
      count_by (λ z. is_lt (scored_cmp (x, m) z)) (listed rule entries) + count_by (λ z. is_lt (scored_cmp z (x, m))) (listed rule entries) + 1 ≡ length (listed rule entries)
  others_around is = around_one (listed rule entries) (x, m) (listed_rises rule entries) (score_listed rule entries x m is)

  -- and else all do
  pub pairs_around : (score_of rule (entry_in entries m) ≡ Some x → ⊥) →
      count_by (λ z. is_lt (scored_cmp (x, m) z)) (listed rule entries) + count_by (λ z. is_lt (scored_cmp z (x, m))) (listed rule entries) ≡ length (listed rule entries)
  pairs_around other = around_none (listed rule entries) (x, m) (λ here. other (listed_score rule entries x m here))

-- a score that is there is this one where they are equal
pub is_score : (r : Option ℤ) (x : ℤ) → Decides (option_eq int_eq r (Some x)) (r ≡ Some x)
is_score None x = (λ equal. absurd (true≢false (sym equal)), λ is. absurd (none-some x is))
is_score (Some y) x = (
  λ equal. ap (λ (z : ℤ). Some z) ((Decides-int_eq y x).0 equal),
  λ is. (Decides-int_eq y x).1 (same_Some y x is),
)

-- ---- a member that does not stand

module _ (rule : Rule) (entries : Entries) (m : List ℕ) (none : score_of rule (entry_in entries m) ≡ None) where
  not_its : (k : ℕ) (d : Scored) → k < length (listed rule entries) → is_of_member m (get_or (listed rule entries) k d) ≡ false
  not_its k d within = false_from_ne_true _ (λ is.
      let z : Scored = get_or (listed rule entries) k d in
      let here = contains_in z (listed rule entries) (k, within, get_or_default (listed rule entries) k z d within) in
      none-some z.0 (sym none ∙ ap (λ n. score_of rule (entry_in entries n)) (sym (same_bytes z.1 m is)) ∙ listed_score rule entries z.0 z.1 here))

  -- has no rank
  pub no_rank : position (is_of_member m) (listed rule entries) ≡ None
  no_rank = position_none (is_of_member m) (listed rule entries) (pos 0, []) (λ k within. not_its k (pos 0, []) within)

  pub no_turned_rank : position (is_of_member m) (reverse (listed rule entries)) ≡ None
  no_turned_rank = position_none (is_of_member m) (reverse (listed rule entries)) (pos 0, []) (λ k within.
      let l : k < length (listed rule entries) = omega (arith, within, length-reverse (listed rule entries)) in
      ap (is_of_member m) (get_or-reverse (listed rule entries) k (pos 0, []) l) ∙ not_its (length (listed rule entries) - 1 - k) (pos 0, []) (omega (arith, l)))

-- ---- the queue

module _ (rule : Rule) (held : Held) (all : AreScored rule held) (m : List ℕ) where
  abbrev queue : List Scored
  queue = listed rule (entries_of held)

  abbrev is_its : Scored → Bool
  is_its = is_of_member m

  -- a pair of the member is in the map
  got_at : (k : ℕ) (d : Scored) → k < length queue → is_its (get_or queue k d) ≡ true → get (scores_of held) m ≡ Some (get_or queue k d).0
  got_at k d within is =
      let z : Scored = get_or queue k d in
      ap (get (scores_of held)) (sym (same_bytes z.1 m is)) ∙ ((listed_in_order rule held all).lists.has z).0 (k, within, get_or_default queue k z d within)

  module _ (p : ℤ × Entry) (there : get held m ≡ Some p) where
    abbrev its : Scored
    its = (p.0, m)

    place : Contains queue its
    place = ((listed_in_order rule held all).lists.has its).1 (get-scores_of held m ∙ ap (option_map (λ q. q.0)) there)

    count_is : count_by (goes_before its) queue ≡ place.0
    count_is = ap (λ y. count_by (goes_before y) queue) (sym place.2) ∙ count_index queue (listed_rises rule (entries_of held)) place.0 its place.1

    -- how many go before it is below the length
    pub count_within : count_by (λ z. is_lt (scored_cmp z its)) queue < length queue
    count_within = omega (arith, count_is, place.1)

    passes : is_its (get_or queue place.0 its) ≡ true
    passes = ap is_its place.2 ∙ bytes_same m m refl

    -- no other pair is the member's
    others_fail : (k : ℕ) → k < length queue → k ≢ place.0 → is_its (get_or queue k its) ≡ false
    others_fail k within apart = false_from_ne_true _ (λ is.
        let member : (get_or queue k its).1 ≡ m = same_bytes (get_or queue k its).1 m is in
        let here : (get_or queue place.0 its).1 ≡ m = ap (λ z. z.1) place.2 in
        let once = (listed_in_order rule held all).lists.once in
        elim (cases_lt k place.0) [
          | inl l ↦ once k place.0 its l place.1 (member ∙ sym here)
          | inr g ↦ once place.0 k its (omega (arith, g, apart)) within (here ∙ sym member)
        ])

    -- its rank is how many go before it
    pub rank_is : Some (count_by (λ z. is_lt (scored_cmp z its)) queue) ≡ position is_its queue
    rank_is = ap (λ n. Some n) count_is ∙ sym (position_at is_its queue place.0 its place.1 (λ k l. others_fail k (omega (arith, l, place.1)) (λ e. absurd (omega (arith, l, e)))) passes)

    -- its rank from the last is how many go after it
    pub turned_rank_is : Some (length queue - 1 - count_by (λ z. is_lt (scored_cmp z its)) queue) ≡ position is_its (reverse queue)
    turned_rank_is =
        let n = length queue in
        let i = n - 1 - place.0 in
        let long = length-reverse queue in
        let within : i < n = omega (arith, place.1) in
        let back : n - 1 - i ≡ place.0 = omega (arith, place.1) in
        ap (λ c. Some (length queue - 1 - c)) count_is
        ∙ sym (position_at is_its (reverse queue) i its (omega (arith, within, long))
        (λ k l. ap is_its (get_or-reverse queue k its (omega (arith, l, within))) ∙ others_fail (n - 1 - k) (omega (arith, place.1)) (λ e. absurd (omega (arith, l, e, place.1))))
        (ap is_its (get_or-reverse queue i its within) ∙ ap (λ j. is_its (get_or queue j its)) back ∙ passes))

  -- ---- the same, by the score

  held_some : (x : ℤ) → score_of rule (entry_in (entries_of held) m) ≡ Some x → (p : ℤ × Entry) × (get held m ≡ Some p) × (p.0 ≡ x)
  held_some x is = option_map_some (λ p. p.0) (get held m) x (sym (score_held rule held all m) ∙ is)

  module _ (x : ℤ) (is : score_of rule (entry_in (entries_of held) m) ≡ Some x) where
    pub rank_of : Some (count_by (λ z. is_lt (scored_cmp z (x, m))) queue) ≡ position is_its queue
    rank_of = let p = held_some x is in subst (λ y. Some (count_by (λ z. is_lt (scored_cmp z (y, m))) queue) ≡ position is_its queue) p.2 (rank_is p.0 p.1)

    pub turned_rank_of : Some (length queue - 1 - count_by (λ z. is_lt (scored_cmp z (x, m))) queue) ≡ position is_its (reverse queue)
    turned_rank_of = let p = held_some x is in subst (λ y. Some (length queue - 1 - count_by (λ z. is_lt (scored_cmp z (y, m))) queue) ≡ position is_its (reverse queue)) p.2 (turned_rank_is p.0 p.1)

    pub rank_within : count_by (λ z. is_lt (scored_cmp z (x, m))) queue < length queue
    rank_within = let p = held_some x is in subst (λ y. count_by (λ z. is_lt (scored_cmp z (y, m))) queue < length queue) p.2 (count_within p.0 p.1)

-- ---- of entries of which none is bare

module _ (rule : Rule) (m : Entries) (all : NoneIsBare m) (name : List ℕ) (x : ℤ) (is : score_of rule (entry_in m name) ≡ Some x) where
  beside : score_of rule (entry_in (entries_of (held_from rule m)) name) ≡ Some x
  beside = ap (λ e. score_of rule (entry_in e name)) (entries_of-held_from rule m) ∙ is

  pub entry_rank : Some (count_by (λ z. is_lt (scored_cmp z (x, name))) (listed rule m)) ≡ position (is_of_member name) (listed rule m)
  entry_rank = subst (λ e. Some (count_by (λ z. is_lt (scored_cmp z (x, name))) (listed rule e)) ≡ position (is_of_member name) (listed rule e)) (entries_of-held_from rule m)
      (rank_of rule (held_from rule m) (scored-held_from rule m all) name x beside)

  pub entry_turned_rank : Some (length (listed rule m) - 1 - count_by (λ z. is_lt (scored_cmp z (x, name))) (listed rule m)) ≡ position (is_of_member name) (reverse (listed rule m))
  entry_turned_rank = subst (λ e. Some (length (listed rule e) - 1 - count_by (λ z. is_lt (scored_cmp z (x, name))) (listed rule e)) ≡ position (is_of_member name) (reverse (listed rule e)))
      (entries_of-held_from rule m) (turned_rank_of rule (held_from rule m) (scored-held_from rule m all) name x beside)

  pub entry_rank_within : count_by (λ z. is_lt (scored_cmp z (x, name))) (listed rule m) < length (listed rule m)
  entry_rank_within = subst (λ e. count_by (λ z. is_lt (scored_cmp z (x, name))) (listed rule e) < length (listed rule e)) (entries_of-held_from rule m)
      (rank_within rule (held_from rule m) (scored-held_from rule m all) name x beside)
