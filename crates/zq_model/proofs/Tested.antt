-- What the test of an operation tells.

use Rattle.std.proofs.Common.{ℕ, suc, zero, ◌<◌, ◌≤◌, ◌+◌, ◌≡◌, true, List, [], ◌∷◌, T, arith, eq-eqb, refl, subst, sym, ℤ}
use Rattle.std.proofs.lemmas.Bool.{and_parts, eqb-true, leb-true, ltb-true}
use Rattle.std.proofs.lemmas.Bool.Decides.{nat_tests}
use Rattle.std.specs.List.{list_all}
use Rattle.std.specs.Prelude.{false, int_le, length, nat_le, nat_lt, neg_ℤ, pos, slice_index, ◌≤ℤ◌}
use Rattle.zq_model.specs.Books.{are_counters, is_act, is_operation, is_within}
use Rattle.zq_model.specs.Heaps.{heap_of}
use Rattle.zq_model.specs.Operation.{Act, Bump, Drop, IsAct, IsWithin, MOST, Operation, Put}
use Rattle.zq_model.specs.Sets.{IsCounters, IsOperation, LAST, SITES}

-- ---- from the test

le_from : (x y : ℤ) → int_le x y ≡ true → x ≤ℤ y
le_from x y e = record { le = subst T (sym e) tt }

within_from : (x : ℤ) → is_within x ≡ true → IsWithin MOST x
within_from x e = let h = and_parts _ _ e in (le_from _ x h.0, le_from x _ h.1)

act_from : (a : Act) → is_act a ≡ true → IsAct a
act_from (Put score) e = within_from score e
act_from (Bump increment) e = within_from increment e
act_from Drop e = tt

at_most : (v : List ℕ) (b t : ℕ) → list_all (λ n. nat_le n b) v ≡ true → slice_index v t ≤ b
at_most [] b t e = omega arith
at_most (n ∷ v) b zero e = leb-true n b (and_parts _ _ e).0
at_most (n ∷ v) b (suc t) e = at_most v b t (and_parts _ _ e).1

counters_from : (v : List ℕ) → are_counters v ≡ true → IsCounters v
counters_from v e = let h = and_parts _ _ e in record { wide = eqb-true (length v) SITES h.0; bounded = λ t. at_most v LAST t h.1 }

pub operation_from : (K : ℕ) (o : Operation) → is_operation K o ≡ true → IsOperation K o
operation_from K o e =
    let low = and_parts _ _ e in
    let high = and_parts _ _ low.1 in
    let act = and_parts _ _ high.1 in
    let heap = and_parts _ _ act.1 in
    let site = and_parts _ _ heap.1 in
    let seen = and_parts _ _ site.1 in
    let n = and_parts _ _ seen.1 in
    record {
      heaps = (leb-true 1 K low.0, leb-true K 16 high.0);
      act = act_from o.act act.0;
      heap = eqb-true o.heap _ heap.0;
      site = ltb-true o.site SITES site.0;
      seen = counters_from o.seen seen.0;
      next = eqb-true o.n _ n.0;
      bounded = leb-true o.n LAST n.1;
    }

-- ---- to the test

le_to : (x y : ℤ) → x ≤ℤ y → int_le x y ≡ true
le_to x y is = elim (int_le x y) as (λ b. T b → b ≡ true) [ true ↦ λ _. refl | false ↦ λ none. absurd none ] is.le

within_to : (x : ℤ) → IsWithin MOST x → is_within x ≡ true
within_to x is = rw (le_to (neg_ℤ (pos MOST)) x is.0, le_to x (pos MOST) is.1) refl

act_to : (a : Act) → IsAct a → is_act a ≡ true
act_to (Put score) is = within_to score is
act_to (Bump increment) is = within_to increment is
act_to Drop is = refl

le_b : (m n : ℕ) → m ≤ n → nat_le m n ≡ true
le_b m n is = grind (arith, nat_tests)

lt_b : (m n : ℕ) → m < n → nat_lt m n ≡ true
lt_b m n is = grind (arith, nat_tests)

all_most : (v : List ℕ) (b : ℕ) → ((t : ℕ) → slice_index v t ≤ b) → list_all (λ n. nat_le n b) v ≡ true
all_most [] b is = refl
all_most (n ∷ v) b is = rw (le_b n b (is 0), all_most v b (λ t. is (suc t))) refl

counters_to : (v : List ℕ) → IsCounters v → are_counters v ≡ true
counters_to v is = rw (eq-eqb (length v) SITES is.wide, all_most v LAST is.bounded) refl

pub operation_to : (K : ℕ) (o : Operation) → IsOperation K o → is_operation K o ≡ true
operation_to K o is =
    rw (
      le_b 1 K is.heaps.0,
      le_b K 16 is.heaps.1,
      act_to o.act is.act,
      eq-eqb o.heap (heap_of o.key o.member K) is.heap,
      lt_b o.site SITES is.site,
      counters_to o.seen is.seen,
      eq-eqb o.n (slice_index o.seen o.site + 1) is.next,
      le_b o.n LAST is.bounded,
    ) refl
