-- The sum of what each site adds, where one site adds more.
use Rattle.std.proofs.Common.{List, [], ap, arith, cond, inl, inr, length, map, pos, refl, subst, suc, sym, zero, ℕ, ℤ, ◌+ℤ◌, ◌+◌, ◌<◌, ◌==◌, ◌∙◌, ◌∷◌, ◌≡◌, ◌≤◌}
use Rattle.std.proofs.lemmas.Bool.{cases_eq, cond-false, cond-true, eq-eqb, ne_eqb}
use Rattle.std.proofs.lemmas.Int.{ints}
use Rattle.std.specs.List.{range_with_len}
use Rattle.std.specs.Prelude.{if◌then◌else◌}
use Rattle.zq_model.proofs.Sites.{by_site_from}
use Rattle.zq_model.specs.Entry.{Addition, sum_at}
use Rattle.zq_model.specs.Score.{total}
use Rattle.zq_model.specs.Sets.{SITES, by_site}

pub total_zeros : (ts : List ℕ) → total (map (λ (t : ℕ). pos 0) ts) ≡ pos 0
total_zeros [] = refl
total_zeros (t ∷ ts) = let rest = total_zeros ts in omega (arith, ints)

-- f, with more at t
abbrev pub with_more : (ℕ → ℤ) → ℕ → ℤ → ℕ → ℤ
with_more f t i r = if r == t then f r +ℤ i else f r

with_more_past : (f : ℕ → ℤ) (t : ℕ) (i : ℤ) (n a : ℕ) → t < a → total (map (with_more f t i) (range_with_len a n)) ≡ total (map f (range_with_len a n))
with_more_past f t i zero a past = refl
with_more_past f t i (suc n) a past =
    let rest = with_more_past f t i n (a + 1) (omega arith) in
    let here : with_more f t i a ≡ f a = cond-false _ (f a +ℤ i) (f a) (ne_eqb a t (λ e. omega arith)) in
    omega (arith, ints)

total_with_more : (f : ℕ → ℤ) (t : ℕ) (i : ℤ) (n a : ℕ) → a ≤ t → t < a + n →
    total (map (with_more f t i) (range_with_len a n)) ≡ total (map f (range_with_len a n)) +ℤ i
total_with_more f t i zero a low high = absurd (omega arith)
total_with_more f t i (suc n) a low high = elim (cases_eq a t) [
  | inl same ↦
      let rest = with_more_past f t i n (a + 1) (omega arith) in
      let here : with_more f t i a ≡ f a +ℤ i = cond-true _ (f a +ℤ i) (f a) (eq-eqb a t same) in
      omega (arith, ints)
  | inr other ↦
      let rest = total_with_more f t i n (a + 1) (omega arith) (omega arith) in
      let here : with_more f t i a ≡ f a = cond-false _ (f a +ℤ i) (f a) (ne_eqb a t other) in
      omega (arith, ints)
]

-- what one site adds more is more in all
pub total_more : (x : Addition) (t : ℕ) (i : ℤ) → length x.sums ≡ SITES → t < SITES →
    total (by_site (with_more (sum_at x) t i)) ≡ total x.sums +ℤ i
total_more x t i wide below =
    total_with_more (sum_at x) t i SITES 0 (omega arith) (omega arith)
    ∙ ap (λ sums. total sums +ℤ i) (sym (by_site_from (sum_at x) x.sums (pos 0) wide (λ s h. refl)))
