-- A base that is raised site by site.

use Rattle.std.proofs.Common.{List, arith, cond, get_or, inl, inr, length, ltb, refl, slice_set, subst, sym, ℕ, ◌+◌, ◌<◌, ◌∙◌, ◌≡◌, ◌≤◌}
use Rattle.std.proofs.lemmas.Bool.{cases_eq, cond_above, cond_below}
use Rattle.std.proofs.lemmas.List.{get_or-set_other, get_or-set_same, length-set}
use Rattle.zq_backlog.specs.Log.{skipped_base}
use Rattle.zq_model.proofs.Sites.{by_site_from}
use Rattle.zq_model.specs.Sets.{LAST, SITES}

abbrev pub skipped_to : List ℕ → List ℕ → List ℕ → ℕ → ℕ
skipped_to base last v t = cond (ltb (get_or last t 0) (get_or v t 0)) (get_or v t 0) (get_or base t 0)

-- the sites below i are done, the others are not
pub record IsSkippedBelow (old last v : List ℕ) (i : ℕ) (base : List ℕ) : Type 0 where
  pub wide : length base ≡ length old
  pub done : (t : ℕ) → t < i → get_or base t 0 ≡ skipped_to old last v t
  pub rest : (t : ℕ) → i ≤ t → get_or base t 0 ≡ get_or old t 0
  pub bounded : (t : ℕ) → t < i → get_or v t 0 ≤ LAST

pub none_skipped : (old last v : List ℕ) → IsSkippedBelow old last v 0 old
none_skipped old last v = record { wide = refl; done = λ t h. absurd (omega arith); rest = λ t h. refl; bounded = λ t h. absurd (omega arith) }

one_bounded : (v : List ℕ) (i : ℕ) → ((t : ℕ) → t < i → get_or v t 0 ≤ LAST) → get_or v i 0 ≤ LAST → (t : ℕ) → t < i + 1 → get_or v t 0 ≤ LAST
one_bounded v i each small t h = elim (cases_eq t i) [
  | inl same ↦ subst (λ x. get_or v x 0 ≤ LAST) (sym same) small
  | inr other ↦ each t (omega arith)
]

-- one more is raised
pub one_raised : (old last v base : List ℕ) (i : ℕ) → IsSkippedBelow old last v i base → i < length base → get_or v i 0 ≤ LAST → get_or last i 0 < get_or v i 0 → IsSkippedBelow old last v (i + 1) (slice_set base i (get_or v i 0))
one_raised old last v base i below in' small more = record {
  wide = length-set base i (get_or v i 0) ∙ below.wide;
  done = λ t h. elim (cases_eq t i) [
    | inl same ↦
        subst (λ x. get_or (slice_set base i (get_or v i 0)) x 0 ≡ skipped_to old last v x) (sym same)
        (get_or-set_same base i (get_or v i 0) 0 in' ∙ cond_below (get_or last i 0) (get_or v i 0) (get_or v i 0) (get_or old i 0) more)
    | inr other ↦ get_or-set_other base i t (get_or v i 0) 0 other ∙ below.done t (omega arith)
  ];
  rest = λ t h. get_or-set_other base i t (get_or v i 0) 0 (omega arith) ∙ below.rest t (omega arith);
  bounded = one_bounded v i below.bounded small;
}

-- one more stays
pub one_stays : (old last v base : List ℕ) (i : ℕ) → IsSkippedBelow old last v i base → get_or v i 0 ≤ LAST → get_or v i 0 ≤ get_or last i 0 → IsSkippedBelow old last v (i + 1) base
one_stays old last v base i below small less = record {
  wide = below.wide;
  done = λ t h. elim (cases_eq t i) [
    | inl same ↦
        subst (λ x. get_or base x 0 ≡ skipped_to old last v x) (sym same)
        (cond_above (get_or last i 0) (get_or v i 0) (get_or v i 0) (get_or old i 0) (get_or base i 0) less (below.rest i (omega arith)))
    | inr other ↦ below.done t (omega arith)
  ];
  rest = λ t h. below.rest t (omega arith);
  bounded = one_bounded v i below.bounded small;
}

pub all_skipped : (old last v base : List ℕ) (i : ℕ) → IsSkippedBelow old last v i base → SITES ≤ i → length old ≡ SITES → base ≡ skipped_base old last v
all_skipped old last v base i below enough wide =
    by_site_from (skipped_to old last v) base 0 (below.wide ∙ wide) (λ s h. below.done s (omega arith))
