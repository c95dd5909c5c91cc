-- Tests of a written-out set, and what they tell.

use Rattle.std.proofs.Common.{ℕ, suc, zero, ◌<◌, ◌≤◌, ◌+◌, ◌≡◌, Bool, true, not, List, [], ◌∷◌, ◌&&◌, ◌||◌, length, get_or, T, Option, Some, None, sym, subst, inl, inr, arith, ℤ}
use Rattle.std.specs.Prelude.{int_le, nat_le, nat_lt, neg_ℤ, pos, slice_index, ◌==◌, ◌≤ℤ◌, false}
use Rattle.std.specs.List.{list_all, list_any, range_with_len}
use Rattle.std.specs.Ordering.{int_eq}
use Rattle.std.proofs.lemmas.Bool.{and_from, and_parts, cases_lt, eqb-true, leb-true, ltb-true, or_cases, false_from_ne_true, not-true, not_from_false}
use Rattle.std.proofs.lemmas.Bool.Decides.{Decides-int_eq}
use Rattle.std.proofs.lemmas.List.{get_or_past}
use Rattle.zq_model.specs.Examples.{HasScore}
use Rattle.zq_model.specs.Heaps.{heap_of}
use Rattle.zq_model.specs.Meaning.{IsLive, has_seen, is_of, is_same, value_of_put}
use Rattle.zq_model.specs.Operation.{Act, Bump, Drop, IsAct, IsWithin, MOST, Operation, Put, is_put, is_removal}
use Rattle.zq_model.specs.Rule.{Greatest, IsNoWorse, Least, Rule}
use Rattle.zq_model.specs.Sets.{IsClosed, IsCounters, IsIn, IsOperation, IsWorld, LAST, SITES, is_dot}
use Rattle.zq_model.proofs.Dots.{has_parts}
use Rattle.zq_model.proofs.EachOnce.{is_same_equal}
use Rattle.zq_model.proofs.Membership.{any_none, any_nothing, any_some, in_range_with_len}
use Rattle.zq_model.proofs.Worlds.{is_dot_from, is_dot_parts}

pub all_in : {X : Type 0} (p : X → Bool) (S : List X) (x : X) → list_all p S ≡ true → IsIn x S → p x ≡ true
all_in p [] x e i = absurd i
all_in p (y ∷ S) x e (inl h) = subst (λ z. p z ≡ true) h (and_parts _ _ e).0
all_in p (y ∷ S) x e (inr h) = all_in p S x (and_parts _ _ e).1 h

le_from : (x y : ℤ) → int_le x y ≡ true → x ≤ℤ y
le_from x y e = record { le = subst T (sym e) tt }

-- ---- a world

abbrev pub within_test : ℤ → Bool
within_test x = int_le (neg_ℤ (pos MOST)) x && int_le x (pos MOST)

IsWithin-from_test : (x : ℤ) → within_test x ≡ true → IsWithin MOST x
IsWithin-from_test x e = let h = and_parts _ _ e in (le_from _ x h.0, le_from x _ h.1)

abbrev pub act_test : Act → Bool
act_test (Put score) = within_test score
act_test (Bump increment) = within_test increment
act_test Drop = true

IsAct-from_test : (a : Act) → act_test a ≡ true → IsAct a
IsAct-from_test (Put score) e = IsWithin-from_test score e
IsAct-from_test (Bump increment) e = IsWithin-from_test increment e
IsAct-from_test Drop e = tt

abbrev pub counters_test : List ℕ → Bool
counters_test v = (length v == SITES) && list_all (λ n. nat_le n LAST) v

at_most : (v : List ℕ) (b t : ℕ) → list_all (λ n. nat_le n b) v ≡ true → slice_index v t ≤ b
at_most [] b t e = omega arith
at_most (n ∷ v) b zero e = leb-true n b (and_parts _ _ e).0
at_most (n ∷ v) b (suc t) e = at_most v b t (and_parts _ _ e).1

IsCounters-from_test : (v : List ℕ) → counters_test v ≡ true → IsCounters v
IsCounters-from_test v e = let h = and_parts _ _ e in record { wide = eqb-true (length v) SITES h.0; bounded = λ t. at_most v LAST t h.1 }

abbrev pub operation_test : ℕ → Operation → Bool
operation_test K o =
    nat_le 1 K && (nat_le K 16 && (act_test o.act && ((o.heap == heap_of o.key o.member K) && (nat_lt o.site SITES
    && (counters_test o.seen && ((o.n == slice_index o.seen o.site + 1) && nat_le o.n LAST))))))

IsOperation-from_test : (K : ℕ) (o : Operation) → operation_test K o ≡ true → IsOperation K o
IsOperation-from_test K o e =
    let low = and_parts _ _ e in
    let high = and_parts _ _ low.1 in
    let act = and_parts _ _ high.1 in
    let heap = and_parts _ _ act.1 in
    let site = and_parts _ _ heap.1 in
    let seen = and_parts _ _ site.1 in
    let n = and_parts _ _ seen.1 in
    record {
      heaps = (leb-true 1 K low.0, leb-true K 16 high.0);
      act = IsAct-from_test o.act act.0;
      heap = eqb-true o.heap _ heap.0;
      site = ltb-true o.site SITES site.0;
      seen = IsCounters-from_test o.seen seen.0;
      next = eqb-true o.n _ n.0;
      bounded = leb-true o.n LAST n.1;
    }

-- two operations with one dot are the same
abbrev pub one_test : Operation → Operation → Bool
one_test o p = not (is_dot o.heap o.site o.n p) || is_same o p

one_of_dot : (o p : Operation) → one_test o p ≡ true → is_dot o.heap o.site o.n p ≡ true → o ≡ p
one_of_dot o p e h = elim (or_cases (not (is_dot o.heap o.site o.n p)) (is_same o p) e) [
  | inl f ↦ cc (not-true _ f, h)
  | inr f ↦ is_same_equal o p f
]

abbrev pub world_test : ℕ → List Operation → Bool
world_test K S = list_all (operation_test K) S && list_all (λ o. list_all (one_test o) S) S

pub IsWorld-from_test : (K : ℕ) (S : List Operation) → world_test K S ≡ true → IsWorld K S
IsWorld-from_test K S e = let h = and_parts _ _ e in record {
  each = λ o i. IsOperation-from_test K o (all_in (operation_test K) S o h.0 i);
  one = λ o p i j a b c. one_of_dot o p (all_in (one_test o) S p (all_in (λ r. list_all (one_test r) S) S o h.1 i) j) (is_dot_from o.heap o.site o.n p (sym a) (sym b) (sym c));
}

-- ---- a closed set

abbrev pub seen_test : List Operation → Operation → ℕ → Bool
seen_test S o s = list_all (λ n. list_any (is_dot o.heap s n) S) (range_with_len 1 (slice_index o.seen s))

abbrev pub closed_test : List Operation → Bool
closed_test S = list_all (λ o. list_all (seen_test S o) (range_with_len 0 (length o.seen))) S

seen_site : (v : List ℕ) (s n : ℕ) → 0 < n → n ≤ get_or v s 0 → s < length v
seen_site v s n low high = elim (cases_lt s (length v)) [ inl l ↦ l | inr l ↦ (let none = get_or_past v s 0 l in absurd (omega arith)) ]

pub IsClosed-from_test : (S : List Operation) → closed_test S ≡ true → IsClosed S
IsClosed-from_test S e = record {
  before = λ o i s n known.
      let p = has_parts o.seen s n known in
      let site = in_range_with_len 0 (length o.seen) s (omega arith) (omega (arith, seen_site o.seen s n p.0 p.1)) in
      let all = all_in (seen_test S o) (range_with_len 0 (length o.seen)) s (all_in (λ r. list_all (seen_test S r) (range_with_len 0 (length r.seen))) S o e i) site in
      let dot = any_some (is_dot o.heap s n) S (all_in (λ m. list_any (is_dot o.heap s m) S) (range_with_len 1 (slice_index o.seen s)) n all (in_range_with_len 1 _ n p.0 (omega (arith, p.1)))) in
      let parts = is_dot_parts o.heap s n dot.0 dot.2 in
      (dot.0, dot.1, parts.0, parts.1, parts.2);
}

-- ---- live Puts and scores

-- a Put or Drop on the member that has seen p
abbrev pub takes_away : List ℕ → List ℕ → Operation → Operation → Bool
takes_away k m p o = is_of k m o && (is_removal o.act && has_seen o p)

abbrev pub live_test : List Operation → List ℕ → List ℕ → Operation → Bool
live_test S k m p = is_of k m p && (is_put p.act && not (list_any (takes_away k m p) S))

IsLive-from_test : (S : List Operation) (k m : List ℕ) (p : Operation) → IsIn p S → live_test S k m p ≡ true → IsLive S k m p
IsLive-from_test S k m p i e =
    let on = and_parts (is_of k m p) _ e in
    let put = and_parts (is_put p.act) _ on.1 in
    let none : list_any (takes_away k m p) S ≡ false = not-true _ put.1 in
    record {
      here = i;
      on = on.0;
      put = put.0;
      kept = λ o j f g. false_from_ne_true (has_seen o p) (λ seen. cc (any_none (takes_away k m p) S o none j, and_from (is_of k m o) _ f (and_from (is_removal o.act) _ g seen)));
    }

live_passes : (S : List Operation) (k m : List ℕ) (p : Operation) → IsLive S k m p → live_test S k m p ≡ true
live_passes S k m p live =
    let none = any_nothing (takes_away k m p) S (λ o i e.
    let on = and_parts (is_of k m o) _ e in
    let takes = and_parts (is_removal o.act) _ on.1 in
    cc (live.kept o i on.0 takes.0, takes.1)) in
    and_from _ _ live.on (and_from _ _ live.put (not_from_false _ none))

-- no Put is live
abbrev pub none_test : List Operation → List ℕ → List ℕ → Bool
none_test S k m = not (list_any (live_test S k m) S)

no_live : (S : List Operation) (k m : List ℕ) → none_test S k m ≡ true → (p : Operation) → IsLive S k m p → ⊥
no_live S k m e p live = cc (any_none (live_test S k m) S p (not-true _ e) live.here, live_passes S k m p live)

-- x is no worse than y
abbrev pub no_worse_test : Rule → ℤ → ℤ → Bool
no_worse_test Greatest x y = int_le y x
no_worse_test Least x y = int_le x y

IsNoWorse-from_test : (rule : Rule) (x y : ℤ) → no_worse_test rule x y ≡ true → IsNoWorse rule x y
IsNoWorse-from_test Greatest x y e = le_from y x e
IsNoWorse-from_test Least x y e = le_from x y e

-- a live Put is worth x, and none is worth a better score
abbrev pub is_reached : List Operation → List ℕ → List ℕ → ℤ → Operation → Bool
is_reached S k m x p = live_test S k m p && int_eq (value_of_put S p) x

abbrev pub is_best : Rule → List Operation → List ℕ → List ℕ → ℤ → Operation → Bool
is_best rule S k m x p = not (live_test S k m p) || no_worse_test rule x (value_of_put S p)

abbrev pub score_test : Rule → List Operation → List ℕ → List ℕ → Option ℤ → Bool
score_test rule S k m None = none_test S k m
score_test rule S k m (Some x) = list_any (is_reached S k m x) S && list_all (is_best rule S k m x) S

no_better : (rule : Rule) (S : List Operation) (k m : List ℕ) (x : ℤ) (p : Operation) → is_best rule S k m x p ≡ true → IsLive S k m p → IsNoWorse rule x (value_of_put S p)
no_better rule S k m x p e live = elim (or_cases (not (live_test S k m p)) _ e) [
  | inl f ↦ cc (not-true _ f, live_passes S k m p live)
  | inr f ↦ IsNoWorse-from_test rule x _ f
]

pub HasScore-from_test : (rule : Rule) (S : List Operation) (k m : List ℕ) (score : Option ℤ) → score_test rule S k m score ≡ true → HasScore rule S k m score
HasScore-from_test rule S k m None e = no_live S k m e
HasScore-from_test rule S k m (Some x) e =
    let h = and_parts (list_any (is_reached S k m x) S) _ e in
    let p = any_some (is_reached S k m x) S h.0 in
    let f = and_parts (live_test S k m p.0) _ p.2 in
    record {
      reached = (p.0, IsLive-from_test S k m p.0 p.1 f.0, (Decides-int_eq _ x).0 f.1);
      best = λ r live. no_better rule S k m x r (all_in (is_best rule S k m x) S r h.1 live.here) live;
    }
