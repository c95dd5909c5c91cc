-- Lists in rising order: two of the same members are one, and the keys of a set are such a list.
use Rattle.std.proofs.Common.{◌≡◌, Bool, Less, Greater, Equal, List, Ordering, T, [], ◌∷◌, inl, inr, map, refl, subst, sym, true, false, ◌∙◌}
use Rattle.std.proofs.lemmas.Bool.{and_parts}
use Rattle.std.proofs.lemmas.Cmp.{int_cmp_total, nat_list_cmp_total, on_total, then_total, tied_itself}
use Rattle.std.proofs.lemmas.Map.Lookups.{exact_bytes, exact_pairs, exact_signed}
use Rattle.std.specs.Cmp.{IsTotalOrder}
use Rattle.std.specs.Cmp.Lexicographic.{slice_cmp}
use Rattle.std.specs.FinMap.{FinMap, IsAntisymmetric, entries, entries_sorted, is_sorted, keys}
use Rattle.std.specs.FinMap.Entries.{below_all}
use Rattle.std.specs.Ordering.{int_cmp, is_lt, nat_cmp}
use Rattle.zq_model.specs.Meaning.{IsRising, Scored, scored_cmp}
use Rattle.zq_model.specs.Sets.{IsIn}

pub scored_total : IsTotalOrder scored_cmp
scored_total = then_total (on_total (λ (x : Scored). x.0) int_cmp_total) (on_total (λ (x : Scored). x.1) nat_list_cmp_total)

pub scored_exact : IsAntisymmetric scored_cmp
scored_exact = exact_pairs int_cmp (slice_cmp nat_cmp) exact_signed exact_bytes

not_both_below : (x y : Scored) → scored_cmp x y ≡ Less → scored_cmp y x ≡ Less → ⊥
not_both_below x y below above = let turned = scored_total.antisymm x y in cc

pub not_below_itself : (x : Scored) → scored_cmp x x ≡ Less → ⊥
not_below_itself x below = let tied = tied_itself scored_total x in cc

same_first : (x y : Scored) (q r : List Scored) → IsRising (x ∷ q) → IsRising (y ∷ r) → IsIn x (y ∷ r) → IsIn y (x ∷ q) → x ≡ y
same_first x y q r (a, _) (b, _) (inl same) there = sym same
same_first x y q r (a, _) (b, _) (inr later) (inl same) = same
same_first x y q r (a, _) (b, _) (inr later) (inr later') = absurd (not_both_below x y (a y later') (b x later))

same_rest : (x y : Scored) (q r : List Scored) → IsRising (x ∷ q) → x ≡ y → ((z : Scored) → IsIn z (x ∷ q) → IsIn z (y ∷ r)) → (z : Scored) → IsIn z q → IsIn z r
same_rest x y q r rising same within z here = elim (within z (inr here)) [
  | inl first ↦ absurd (not_below_itself x (subst (λ w. scored_cmp x w ≡ Less) (sym (same ∙ first)) (rising.0 z here)))
  | inr later ↦ later
]

-- rising lists of the same members are one
pub rising_one : (q r : List Scored) → IsRising q → IsRising r → ((z : Scored) → IsIn z q → IsIn z r) → ((z : Scored) → IsIn z r → IsIn z q) → q ≡ r
rising_one [] [] a b forth back = refl
rising_one [] (y ∷ r) a b forth back = absurd (back y (inl refl))
rising_one (x ∷ q) [] a b forth back = absurd (forth x (inl refl))
rising_one (x ∷ q) (y ∷ r) a b forth back =
    let same = same_first x y q r a b (forth x (inl refl)) (back y (inl refl)) in
    let rest = rising_one q r a.1 b.1 (same_rest x y q r a same forth) (same_rest y x r q b (sym same) back) in
    λ i. same i ∷ rest i

-- ---- the keys of a set

pub is_true : (b : Bool) → T b → b ≡ true
is_true true holds = refl
is_true false holds = absurd holds

pub less_from : (r : Ordering) → is_lt r ≡ true → r ≡ Less
less_from Less e = refl
less_from Equal e = absurd (cc)
less_from Greater e = absurd (cc)

below_later : {X : Type 0} (x : Scored) (es : List (Scored × X)) → below_all scored_cmp x es ≡ true → (y : Scored) → IsIn y (map (λ e. e.0) es) → scored_cmp x y ≡ Less
below_later x [] below y here = absurd here
below_later x (e ∷ es) below y here =
    let parts = and_parts (is_lt (scored_cmp x e.0)) (below_all scored_cmp x es) below in
    elim here [
      | inl same ↦ less_from (scored_cmp x y) (subst (λ z. is_lt (scored_cmp x z) ≡ true) same parts.0)
      | inr later ↦ below_later x es parts.1 y later
    ]

rising_entries : {X : Type 0} (es : List (Scored × X)) → is_sorted scored_cmp es ≡ true → IsRising (map (λ e. e.0) es)
rising_entries [] sorted = tt
rising_entries (e ∷ es) sorted =
    let parts = and_parts (below_all scored_cmp e.0 es) (is_sorted scored_cmp es) sorted in
    (below_later e.0 es parts.0, rising_entries es parts.1)

-- the keys of a map rise
pub rising_keys : {X : Type 0} (m : FinMap scored_cmp X) → IsRising (keys m)
rising_keys m = rising_entries (entries m) (is_true _ (entries_sorted m))
