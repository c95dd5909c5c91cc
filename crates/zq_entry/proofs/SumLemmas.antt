-- Sums that are not 0, and a place for each site's sum.

use Rattle.std.proofs.Common.{inl, inr, refl, ap, arith, cond, get_or, length, sym, take, lit≤, zero, suc, ◌∙◌, ◌≡◌, ◌≢◌, false, true}
use Rattle.std.proofs.Math.Nat.{mul-le-mul_right}
use Rattle.std.proofs.Math.IntN.{+ℤ_assoc, +ℤ_idr}
use Rattle.std.proofs.lemmas.Int.{ints}
use Rattle.std.proofs.lemmas.Bool.{and_parts, cases_Bool, cases_eq}
use Rattle.std.proofs.lemmas.Bool.Decides.{Decides-eqb, Decides-int_eq, nat_tests}
use Rattle.std.specs.Int.{w128}
use mir.Val.{SFits}
use Rattle.std.specs.List.{AllByRecursion}
use Rattle.std.specs.Bool.{Decides}
use Rattle.std.specs.Ordering.{int_eq}
use Rattle.std.specs.Prelude.{Bool, List, None, Option, [], ◌&&◌, ◌-◌, ◌==◌, map, nat_lt, pos, slice_index, slice_index_or, unwrap_or, ℕ, ℤ, ◌*◌, ◌+◌, ◌+ℤ◌, ◌<◌, ◌≤◌, ◌∷◌}
use Rattle.zq_model.proofs.Bounds.{within_more}
use Rattle.zq_model.specs.Entry.{sums_joined}
use Rattle.zq_model.specs.Operation.{IsWithin, MOST}
use Rattle.zq_model.specs.Score.{total, value_of}
use Rattle.zq_model.specs.Sets.{LAST, SITES, by_site}
use Rattle.zq_model.specs.Sparse.{AreBySite, found}
use Rattle.zq_entry.specs.KeptSums.{kept_sums}
use Rattle.zq_entry.specs.declared.sums.Kept.{Kept}
use Rattle.zq_entry.specs.Placed.{addition_of_put}
use Rattle.zq_entry.specs.Sums.{AreSums, IsSum, MOST_SUM, dense_sums, nonzero_from, nonzero_sums, sum_found, sum_joined, sums_bumped}
use Rattle.zq_entry.proofs.MergeLemmas.{found-merged, merged}
use Rattle.zq_entry.proofs.ReplaceLemmas.{found-replaced_other, found-replaced_same, replaced}
use Rattle.zq_model.proofs.Sites.{by_site-at, by_site-same}
use Rattle.zq_entry.proofs.SparseLemmas.{Here, Later, rising-length, rising-none, spread, spread-step}

abbrev pub or_zero : Option ℤ → ℤ
or_zero sum = unwrap_or sum (pos 0)

zero-add_int : (x : ℤ) → pos 0 +ℤ x ≡ x
zero-add_int x = omega (arith, ints)

not_zero : (x : ℤ) → x ≢ pos 0 → int_eq x (pos 0) ≡ false
not_zero x h =
    elim (cases_Bool (int_eq x (pos 0))) [
      | inl zero' ↦ absurd (h ((Decides-int_eq x (pos 0)).0 zero'))
      | inr other ↦ other
    ]

-- what sums come to, said of those that are not 0
abbrev pub total_of : List (ℕ × ℤ) → ℤ
total_of items = total (map (λ p. p.1) items)

total-spread : (n a high : ℕ) (items : List (ℕ × ℤ)) → a + n ≡ high → AreBySite a high items → total (spread or_zero a n items) ≡ total_of items
total-spread zero a high items e r = ap total_of (sym (rising-none a high items (omega arith) r))
total-spread (suc n) a high items e r =
    elim (spread-step or_zero a n high items r) [
      | Here x rest is rising front ↦ ap total front ∙ (ap (λ y. x +ℤ y) (total-spread n (a + 1) high rest (omega arith) rising) ∙ ap total_of (sym is))
      | Later rising front ↦ ap total front ∙ (zero-add_int (total (spread or_zero (a + 1) n items)) ∙ total-spread n (a + 1) high items (omega arith) rising)
    ]

pub total-dense : (items : List (ℕ × ℤ)) → AreSums items → total (dense_sums items) ≡ total_of items
total-dense items h = total-spread SITES 0 SITES items (omega arith) h.rising

total-none : total (by_site (λ _. pos 0)) ≡ pos 0
total-none = total-dense [] (record { rising = tt; each = tt })

-- what a Put has made is worth its score
pub value-put : (n : ℕ) (score : ℤ) → value_of (addition_of_put n score) ≡ score
value-put n score = ap (λ x. score +ℤ x) total-none ∙ +ℤ_idr score

nonzero-spread : (n a high : ℕ) (items : List (ℕ × ℤ)) → a + n ≡ high → AreBySite a high items → AllByRecursion IsSum items → nonzero_from a (spread or_zero a n items) ≡ items
nonzero-spread zero a high items e r h = sym (rising-none a high items (omega arith) r)
nonzero-spread (suc n) a high items e r h =
    elim (spread-step or_zero a n high items r) [
      | Here x rest is rising front ↦
          let each : AllByRecursion IsSum ((a, x) ∷ rest) = rw is at h in
          let other : int_eq x (pos 0) ≡ false = not_zero x each.0.0 in
          ap (nonzero_from a) front ∙ (ap (λ b. cond b (nonzero_from (a + 1) (spread or_zero (a + 1) n rest)) ((a, x) ∷ nonzero_from (a + 1) (spread or_zero (a + 1) n rest))) other ∙ (ap (λ xs. (a, x) ∷ xs) (nonzero-spread n (a + 1) high rest (omega arith) rising each.1) ∙ sym is))
      | Later rising front ↦ ap (nonzero_from a) front ∙ nonzero-spread n (a + 1) high items (omega arith) rising h
    ]

-- the sums that are not 0 are those that are kept
pub nonzero-dense : (items : List (ℕ × ℤ)) → AreSums items → nonzero_sums (dense_sums items) ≡ items
nonzero-dense items h = nonzero-spread SITES 0 SITES items (omega arith) h.rising h.each

-- so the sums that are kept are those of the model that are not 0
pub kept-nonzero : (kept : Kept) (sums : List ℤ) → AreSums (kept_sums kept) → dense_sums (kept_sums kept) ≡ sums → kept_sums kept ≡ nonzero_sums sums
kept-nonzero kept sums are view = sym (nonzero-dense (kept_sums kept) are) ∙ ap nonzero_sums view

pub sums-length : (items : List (ℕ × ℤ)) → AreSums items → length items ≤ SITES
sums-length items h = omega (arith, rising-length 0 SITES items (omega arith) h.rising)

pub sum-within : (items : List (ℕ × ℤ)) (i : ℕ) (d : ℕ × ℤ) → AllByRecursion IsSum items → i < length items → IsWithin MOST_SUM (get_or items i d).1
sum-within [] i d h l = absurd (omega arith)
sum-within (p ∷ items) zero d h l = h.0.1
sum-within (p ∷ items) (suc i) d h l = sum-within items i d h.1 (omega (arith, l))

pub total-take : (items : List (ℕ × ℤ)) (i : ℕ) (d : ℕ × ℤ) → i < length items → total_of (take (i + 1) items) ≡ total_of (take i items) +ℤ (get_or items i d).1
total-take [] i d l = absurd (omega arith)
total-take (p ∷ items) zero d l = omega (arith, ints)
total-take (p ∷ items) (suc i) d l =
    let more : suc i + 1 ≡ suc (i + 1) = omega arith in
    ap (λ k. total_of (take k (p ∷ items))) more ∙ (ap (λ y. p.1 +ℤ y) (total-take items i d (omega (arith, l))) ∙ sym (+ℤ_assoc p.1 (total_of (take i items)) (get_or items i d).1))

-- ---- no sum overflows

pub few_sites : SITES ≤ 64
unfolding SITES
few_sites = lit≤ tt

-- one more sum is in range
pub more-within : (i : ℕ) (t x : ℤ) → IsWithin (i * MOST_SUM) t → IsWithin MOST_SUM x → IsWithin ((i + 1) * MOST_SUM) (t +ℤ x)
more-within i t x h k = (omega (arith, ints), omega (arith, ints))

pub sums-fit : (i : ℕ) (x : ℤ) → i ≤ SITES → IsWithin (i * MOST_SUM) x → SFits w128 x
sums-fit i x l h = omega (arith, ints, few_sites)

-- a wider range
pub within-more : (i j b : ℕ) (x : ℤ) → i ≤ j → IsWithin (i * b) x → IsWithin (j * b) x
within-more i j b x l h = within_more (i * b) (j * b) x (mul-le-mul_right b l) h

pub value-fits : (x : ℤ) → IsWithin (MOST + SITES * MOST_SUM) x → SFits w128 x
value-fits x h = omega (arith, ints, few_sites)

-- a site with its sum is compared by both
pub Decides-pair : (p q : ℕ × ℤ) → Decides ((p.0 == q.0) && int_eq p.1 q.1) (p ≡ q)
Decides-pair p q = (
  λ both.
      let parts = and_parts (p.0 == q.0) (int_eq p.1 q.1) both in
      ap (λ s. (s, p.1)) ((Decides-eqb p.0 q.0).0 parts.0) ∙ ap (λ x. (q.0, x)) ((Decides-int_eq p.1 q.1).0 parts.1),
  λ same. rw (same, (Decides-eqb q.0 q.0).1 refl, (Decides-int_eq q.1 q.1).1 refl) refl,
)

-- ---- a join

pub nothing-joined : (u v : List ℕ) (s : ℕ) → sum_joined u v s None None ≡ None
nothing-joined u v s = elim (nat_lt (slice_index u s) (slice_index v s)) as (λ b. cond {A = Option ℤ} b None None ≡ None) [ true ↦ refl | false ↦ refl ]

or_zero-cond : (b : Bool) (x y : Option ℤ) → or_zero (cond b x y) ≡ cond b (or_zero x) (or_zero y)
or_zero-cond true x y = refl
or_zero-cond false x y = refl

pub joined-dense : (u v : List ℕ) (a b : List (ℕ × ℤ)) → dense_sums (merged (sum_joined u v) a b) ≡ sums_joined u v (dense_sums a) (dense_sums b)
joined-dense u v a b =
    by_site-same (λ s. sum_found s (merged (sum_joined u v) a b)) (λ t. cond (nat_lt (slice_index u t) (slice_index v t)) (slice_index_or (dense_sums b) t (pos 0)) (slice_index_or (dense_sums a) t (pos 0))) (λ s l.
    ap or_zero (found-merged (sum_joined u v) s a b l)
    ∙ (or_zero-cond (nat_lt (slice_index u s) (slice_index v s)) (found s b) (found s a)
    ∙ (ap (λ x. cond (nat_lt (slice_index u s) (slice_index v s)) x (sum_found s a)) (sym (by_site-at (λ t. sum_found t b) s (pos 0) l))
    ∙ ap (λ x. cond (nat_lt (slice_index u s) (slice_index v s)) (slice_index_or (dense_sums b) s (pos 0)) x) (sym (by_site-at (λ t. sum_found t a) s (pos 0) l)))))

-- ---- a Bump

pub bumped-dense : (s : ℕ) (i : ℤ) (o : Option ℤ) (items : List (ℕ × ℤ)) → AreBySite 0 SITES items → or_zero o ≡ sum_found s items +ℤ i → dense_sums (replaced s o items) ≡ sums_bumped s i (dense_sums items)
bumped-dense s i o items r h =
    by_site-same (λ t. sum_found t (replaced s o items)) (λ t. cond (t == s) (slice_index_or (dense_sums items) t (pos 0) +ℤ i) (slice_index_or (dense_sums items) t (pos 0))) (λ t l.
    let kept = by_site-at (λ r. sum_found r items) t (pos 0) l in
    elim (cases_eq s t) [
      | inl same ↦
          let test : (t == s) ≡ true = grind (arith, nat_tests) in
          ap (λ r. sum_found r (replaced s o items)) (sym same) ∙ (ap or_zero (found-replaced_same s 0 o items r) ∙ (h ∙ (ap (λ r. sum_found r items +ℤ i) same
          ∙ (ap (λ x. x +ℤ i) (sym kept) ∙ sym (ap (λ b. cond b (slice_index_or (dense_sums items) t (pos 0) +ℤ i) (slice_index_or (dense_sums items) t (pos 0))) test)))))
      | inr other ↦
          let test : (t == s) ≡ false = grind (arith, nat_tests) in
          ap or_zero (found-replaced_other t s o items other) ∙ (sym kept ∙ sym (ap (λ b. cond b (slice_index_or (dense_sums items) t (pos 0) +ℤ i) (slice_index_or (dense_sums items) t (pos 0))) test))
    ])

last-counter : (n : ℕ) → n ≤ LAST → n ≤ 281474976710655
unfolding LAST
last-counter n l = l

-- one more increment is in the range that one more counter allows
pub bump-within : (n : ℕ) (x i : ℤ) → 1 ≤ n → IsWithin (MOST * (n - 1)) x → IsWithin MOST i → IsWithin (MOST * n) (x +ℤ i)
bump-within n x i l h k = (omega (arith, ints), omega (arith, ints))

pub counter-within : (n : ℕ) (x : ℤ) → n ≤ LAST → IsWithin (MOST * n) x → IsWithin MOST_SUM x
counter-within n x l h = let last = last-counter n l in (omega (arith, ints), omega (arith, ints))

pub sum-fits : (x : ℤ) → IsWithin MOST_SUM x → SFits w128 x
sum-fits x h = omega (arith, ints)
