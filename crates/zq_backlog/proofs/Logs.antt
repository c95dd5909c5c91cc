-- A log stays one: where its oldest operation goes, where one comes, and where some are skipped.

use Rattle.std.proofs.Common.{List, [], ap, arith, cond, get_or, inl, inr, length, ltb, max, refl, slice_set, subst, sym, ℕ, ◌++◌, ◌+◌, ◌-◌, ◌<◌, ◌∙◌, ◌∷◌, ◌≡◌, ◌≤◌, ◌⊎◌}
use Rattle.std.proofs.lemmas.Bool.{cases_eq, cases_lt, cond_above, cond_below}
use Rattle.std.proofs.lemmas.List.{get_or-set_other, get_or-set_same, get_or_past, length_push}
use Rattle.zq_backlog.proofs.Vectors.{risen_above, risen_counters, risen_own, rises, set_counters, set_le, sum_join, sum_set}
use Rattle.zq_backlog.specs.Log.{AreRising, HasDot, IsLog, Log, appended, base_before, risen, skipped, skipped_base}
use Rattle.zq_dots.specs.Placed.{IsRanged, Placed}
use Rattle.zq_model.proofs.Membership.{in_left, in_right, in_union}
use Rattle.zq_model.proofs.Sites.{by_site-at, by_site-past, length-by_site}
use Rattle.zq_model.specs.Image.{join_vector}
use Rattle.zq_model.specs.Sets.{IsCounters, IsIn, LAST, SITES, by_site}

abbrev pub log_at : List ℕ → List ℕ → List Placed → ℕ → ℕ → Log
log_at base last ops first most = record { base = base; last = last; ops = ops; first = first; most = most }

-- ---- the oldest goes

pub one_goes : (base last : List ℕ) (o : Placed) (ops : List Placed) (first most : ℕ) → IsLog (log_at base last (o ∷ ops) first most) → IsLog (log_at (risen base o) last ops (first + 1) most)
one_goes base last o ops first most log =
    let s = o.operation.site in
    let n = o.operation.n in
    let ranged = log.ranged o (inl refl) in
    let known : n ≤ get_or last s 0 = log.known o (inl refl) in
    let site : s < length base = omega (arith, ranged.site, log.base.wide) in
    let raised = max (get_or base s 0) n in
    record {
      base = risen_counters base o log.base ranged.bounded;
      last = log.last;
      below = λ t. elim (cases_eq t s) [
        | inl same ↦
            let there : get_or last t 0 ≡ get_or last s 0 = ap (λ x. get_or last x 0) same in
            let own = log.below s in
            set_le base s raised (get_or last t 0) t (log.below t) (omega arith)
        | inr other ↦ subst (λ x. x ≤ get_or last t 0) (sym (get_or-set_other base s t raised 0 other)) (log.below t)
      ];
      ranged = λ p in'. log.ranged p (inr in');
      known = λ p in'. log.known p (inr in');
      rising = log.rising.1;
      whole = λ t m above upto.
          let more = risen_above base o t in
          let was = log.whole t m (omega arith) upto in
          let site_is = was.2 in
          let n_is = was.3 in
          elim was.1 [
            | inl same ↦
                let own : s ≡ t = ap (λ (p : Placed). p.operation.site) same ∙ site_is in
                let here : n ≡ m = ap (λ (p : Placed). p.operation.n) same ∙ n_is in
                let up = risen_own base o site in
                let there : get_or (risen base o) s 0 ≡ get_or (risen base o) t 0 = ap (λ x. get_or (risen base o) x 0) own in
                absurd (omega arith)
            | inr behind ↦ (was.0, behind, site_is, n_is)
          ];
      few = let few = log.few in omega arith;
    }

-- ---- some are skipped

skipped_cases : (base last v : List ℕ) (t : ℕ) → length base ≡ SITES → length last ≡ SITES →
    ((t < SITES) × (get_or last t 0 < get_or v t 0) × (get_or (skipped_base base last v) t 0 ≡ get_or v t 0) × (get_or (join_vector last v) t 0 ≡ get_or v t 0))
    ⊎ ((get_or (skipped_base base last v) t 0 ≡ get_or base t 0) × (get_or (join_vector last v) t 0 ≡ get_or last t 0))
skipped_cases base last v t wide_base wide_last =
    let f = λ (x : ℕ). cond (ltb (get_or last x 0) (get_or v x 0)) (get_or v x 0) (get_or base x 0) in
    let g = λ (x : ℕ). max (get_or last x 0) (get_or v x 0) in
    elim (cases_lt t SITES) [
      | inl inside ↦
          let base_is : get_or (by_site f) t 0 ≡ f t = by_site-at f t 0 inside in
          let last_is : get_or (by_site g) t 0 ≡ g t = by_site-at g t 0 inside in
          elim (cases_lt (get_or last t 0) (get_or v t 0)) [
            | inl more ↦ inl (inside, more, base_is ∙ sym (cond_below (get_or last t 0) (get_or v t 0) (get_or v t 0) (get_or base t 0) more), omega arith)
            | inr less ↦ inr (base_is ∙ sym (cond_above (get_or last t 0) (get_or v t 0) (get_or v t 0) (get_or base t 0) (get_or base t 0) less refl), omega arith)
          ]
      | inr past ↦
          let base_is : get_or (by_site f) t 0 ≡ 0 = by_site-past f t 0 past in
          let last_is : get_or (by_site g) t 0 ≡ 0 = by_site-past g t 0 past in
          let b : get_or base t 0 ≡ 0 = get_or_past base t 0 (omega arith) in
          let l : get_or last t 0 ≡ 0 = get_or_past last t 0 (omega arith) in
          inr (base_is ∙ sym b, last_is ∙ sym l)
    ]

pub some_skipped : (v : List ℕ) (l : Log) → ((t : ℕ) → t < SITES → get_or v t 0 ≤ LAST) → IsLog l → IsLog (skipped v l)
some_skipped v l small log =
    let cases = λ (t : ℕ). skipped_cases l.base l.last v t log.base.wide log.last.wide in
    record {
      base = record {
        wide = length-by_site (λ t. cond (ltb (get_or l.last t 0) (get_or v t 0)) (get_or v t 0) (get_or l.base t 0));
        bounded = λ t.
            let old = log.base.bounded t in
            elim (cases t) [ inl c ↦ omega (arith, c.2, small t c.0) | inr c ↦ omega (arith, c.0) ];
      };
      last = record {
        wide = length-by_site (λ t. max (get_or l.last t 0) (get_or v t 0));
        bounded = λ t.
            let old = log.last.bounded t in
            elim (cases t) [ inl c ↦ omega (arith, c.3, small t c.0) | inr c ↦ omega (arith, c.1) ];
      };
      below = λ t. let old = log.below t in elim (cases t) [ inl c ↦ omega (arith, c.2, c.3) | inr c ↦ omega (arith, c.0, c.1) ];
      ranged = log.ranged;
      known = λ o in'.
          let old = log.known o in' in
          elim (cases o.operation.site) [ inl c ↦ omega (arith, c.1, c.3) | inr c ↦ omega (arith, c.1) ];
      rising = log.rising;
      whole = λ t n above upto. elim (cases t) [
        | inl c ↦ absurd (omega (arith, c.2, c.3))
        | inr c ↦ log.whole t n (omega (arith, c.0)) (omega (arith, c.1))
      ];
      few = let few = log.few in let more = sum_join l.last v log.last.wide in omega arith;
    }

-- ---- one comes

rising_push : (ops : List Placed) (o : Placed) → AreRising ops → ((p : Placed) → IsIn p ops → o.operation.site ≡ p.operation.site → p.operation.n < o.operation.n) → AreRising (ops ++ o ∷ [])
rising_push [] o rising above = (λ p none same. absurd none, tt)
rising_push (x ∷ ops) o rising above = (
  λ p in' same. elim (in_union p ops (o ∷ []) in') [
    | inl old ↦ rising.0 p old same
    | inr new ↦ elim new [
      | inl is ↦
          let site : o.operation.site ≡ x.operation.site = ap (λ (q : Placed). q.operation.site) is ∙ same in
          let n : o.operation.n ≡ p.operation.n = ap (λ (q : Placed). q.operation.n) is in
          let more = above x (inl refl) site in
          omega arith
      | inr none ↦ absurd none
    ]
  ],
  rising_push ops o rising.1 (λ p in' same. above p (inr in') same),
)

-- the base before it, by whether others are missing
pub before_cases : (l : Log) (s n : ℕ) → ((get_or l.last s 0 + 1 < n) × (base_before l s n ≡ slice_set l.base s (n - 1))) ⊎ ((n ≤ get_or l.last s 0 + 1) × (base_before l s n ≡ l.base))
before_cases l s n = elim (cases_lt (get_or l.last s 0 + 1) n) [
  | inl gap ↦ inl (gap, sym (cond_below (get_or l.last s 0 + 1) n (slice_set l.base s (n - 1)) l.base gap))
  | inr next ↦ inr (next, sym (cond_above (get_or l.last s 0 + 1) n (slice_set l.base s (n - 1)) l.base l.base next refl))
]

-- over a base that fits
append_over : (o : Placed) (l : Log) (b : List ℕ) → IsRanged o → get_or l.last o.operation.site 0 < o.operation.n → IsLog l → IsCounters b
    → ((t : ℕ) → get_or b t 0 ≤ get_or (slice_set l.last o.operation.site o.operation.n) t 0)
    → ((t n : ℕ) → get_or b t 0 < n → n ≤ get_or (slice_set l.last o.operation.site o.operation.n) t 0 → HasDot (l.ops ++ o ∷ []) t n)
    → IsLog (log_at b (slice_set l.last o.operation.site o.operation.n) (l.ops ++ o ∷ []) l.first l.most)
append_over o l b sound new log counters below whole =
    let s = o.operation.site in
    let n = o.operation.n in
    let site : s < length l.last = omega (arith, sound.site, log.last.wide) in
    let own : get_or (slice_set l.last s n) s 0 ≡ n = get_or-set_same l.last s n 0 site in
    record {
      base = counters;
      last = set_counters l.last s n log.last sound.bounded;
      below = below;
      ranged = λ p in'. elim (in_union p l.ops (o ∷ []) in') [
        | inl old ↦ log.ranged p old
        | inr here ↦ elim here [ inl is ↦ subst IsRanged is sound | inr none ↦ absurd none ]
      ];
      known = λ p in'. elim (in_union p l.ops (o ∷ []) in') [
        | inl old ↦
            let was = log.known p old in
            let more = rises l.last s n p.operation.site (omega arith) in
            omega arith
        | inr here ↦ elim here [
          | inl is ↦
              let there : get_or (slice_set l.last s n) s 0 ≡ get_or (slice_set l.last s n) p.operation.site 0 = ap (λ (q : Placed). get_or (slice_set l.last s n) q.operation.site 0) is in
              let same : n ≡ p.operation.n = ap (λ (q : Placed). q.operation.n) is in
              omega arith
          | inr none ↦ absurd none
        ]
      ];
      rising = rising_push l.ops o log.rising (λ p in' same.
          let was = log.known p in' in
          let there : get_or l.last s 0 ≡ get_or l.last p.operation.site 0 = ap (λ x. get_or l.last x 0) same in
          omega arith);
      whole = whole;
      few =
          let few = log.few in
          let more = sum_set l.last s n site in
          let long = length_push l.ops o in
          omega arith;
    }

-- what was there still is
old_dot : (ops : List Placed) (o : Placed) (t n : ℕ) → HasDot ops t n → HasDot (ops ++ o ∷ []) t n
old_dot ops o t n has = (has.0, in_left has.0 ops (o ∷ []) has.1, has.2, has.3)

new_dot : (ops : List Placed) (o : Placed) (t n : ℕ) → o.operation.site ≡ t → o.operation.n ≡ n → HasDot (ops ++ o ∷ []) t n
new_dot ops o t n site same = (o, in_right o ops (o ∷ []) (inl refl), site, same)

-- of another site nothing changes
elsewhere : (o : Placed) (l : Log) (b : List ℕ) (t n : ℕ) → IsLog l → (t ≡ o.operation.site → ⊥) → get_or b t 0 ≡ get_or l.base t 0 → get_or b t 0 < n → n ≤ get_or (slice_set l.last o.operation.site o.operation.n) t 0 → HasDot (l.ops ++ o ∷ []) t n
elsewhere o l b t n log other same above upto =
    let there : get_or (slice_set l.last o.operation.site o.operation.n) t 0 ≡ get_or l.last t 0 = get_or-set_other l.last o.operation.site t o.operation.n 0 other in
    old_dot l.ops o t n (log.whole t n (omega arith) (omega arith))

append_gap : (o : Placed) (l : Log) → IsRanged o → get_or l.last o.operation.site 0 + 1 < o.operation.n → IsLog l → IsLog (log_at (slice_set l.base o.operation.site (o.operation.n - 1)) (slice_set l.last o.operation.site o.operation.n) (l.ops ++ o ∷ []) l.first l.most)
append_gap o l sound gap log =
    let s = o.operation.site in
    let n = o.operation.n in
    let b = slice_set l.base s (n - 1) in
    let in_last : s < length l.last = omega (arith, sound.site, log.last.wide) in
    let in_base : s < length l.base = omega (arith, sound.site, log.base.wide) in
    let own : get_or (slice_set l.last s n) s 0 ≡ n = get_or-set_same l.last s n 0 in_last in
    let based : get_or b s 0 ≡ n - 1 = get_or-set_same l.base s (n - 1) 0 in_base in
    append_over o l b sound (omega arith) log (set_counters l.base s (n - 1) log.base (omega (arith, sound.bounded)))
    (λ t. elim (cases_eq t s) [
      | inl same ↦
          let x : get_or b t 0 ≡ get_or b s 0 = ap (λ u. get_or b u 0) same in
          let y : get_or (slice_set l.last s n) t 0 ≡ get_or (slice_set l.last s n) s 0 = ap (λ u. get_or (slice_set l.last s n) u 0) same in
          omega arith
      | inr other ↦
          let x : get_or b t 0 ≡ get_or l.base t 0 = get_or-set_other l.base s t (n - 1) 0 other in
          let y : get_or (slice_set l.last s n) t 0 ≡ get_or l.last t 0 = get_or-set_other l.last s t n 0 other in
          let was = log.below t in
          omega arith
    ])
    (λ t m above upto. elim (cases_eq t s) [
      | inl same ↦
          let x : get_or b t 0 ≡ get_or b s 0 = ap (λ u. get_or b u 0) same in
          let y : get_or (slice_set l.last s n) t 0 ≡ get_or (slice_set l.last s n) s 0 = ap (λ u. get_or (slice_set l.last s n) u 0) same in
          new_dot l.ops o t m (sym same) (omega arith)
      | inr other ↦ elsewhere o l b t m log other (get_or-set_other l.base s t (n - 1) 0 other) above upto
    ])

append_next : (o : Placed) (l : Log) → IsRanged o → get_or l.last o.operation.site 0 < o.operation.n → o.operation.n ≤ get_or l.last o.operation.site 0 + 1 → IsLog l → IsLog (log_at l.base (slice_set l.last o.operation.site o.operation.n) (l.ops ++ o ∷ []) l.first l.most)
append_next o l sound new next log =
    let s = o.operation.site in
    let n = o.operation.n in
    let in_last : s < length l.last = omega (arith, sound.site, log.last.wide) in
    let own : get_or (slice_set l.last s n) s 0 ≡ n = get_or-set_same l.last s n 0 in_last in
    append_over o l l.base sound new log log.base
    (λ t. let was = log.below t in let more = rises l.last s n t (omega arith) in omega arith)
    (λ t m above upto. elim (cases_eq t s) [
      | inl same ↦
          let y : get_or (slice_set l.last s n) t 0 ≡ get_or (slice_set l.last s n) s 0 = ap (λ u. get_or (slice_set l.last s n) u 0) same in
          let z : get_or l.last t 0 ≡ get_or l.last s 0 = ap (λ u. get_or l.last u 0) same in
          elim (cases_lt (get_or l.last t 0) m) [
            | inl high ↦ new_dot l.ops o t m (sym same) (omega arith)
            | inr low ↦ old_dot l.ops o t m (log.whole t m above low)
          ]
      | inr other ↦ elsewhere o l l.base t m log other refl above upto
    ])

pub one_comes : (o : Placed) (l : Log) → IsRanged o → get_or l.last o.operation.site 0 < o.operation.n → IsLog l → IsLog (appended o l)
one_comes o l sound new log =
    let s = o.operation.site in
    let n = o.operation.n in
    elim (before_cases l s n) [
      | inl gap ↦ subst (λ b. IsLog (log_at b (slice_set l.last s n) (l.ops ++ o ∷ []) l.first l.most)) (sym gap.1) (append_gap o l sound gap.0 log)
      | inr next ↦ subst (λ b. IsLog (log_at b (slice_set l.last s n) (l.ops ++ o ∷ []) l.first l.most)) (sym next.1) (append_next o l sound new next.0 log)
    ]
