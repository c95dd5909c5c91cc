-- What the Bumps of a set add to a Put: by sites and counters, by sites, and at once.
use Rattle.std.proofs.Common.{◌≡◌, ℕ, zero, suc, ◌+◌, ◌<◌, ◌≤◌, ℤ, pos, ◌+ℤ◌, Bool, true, false, if◌then◌else◌, List, [], ◌∷◌, map, Option, None, Some, refl, sym, ap, ◌∙◌, inl, inr, ◌&&◌, arith, ◌==◌}
use Rattle.std.specs.List.{list_any, range_with_len}
use Rattle.std.proofs.lemmas.Bool.{cases_eq, cond-false, cond-true, eq-eqb, ne_eqb}
use Rattle.std.proofs.lemmas.Int.{ints}
use Rattle.zq_model.proofs.Counters.{if_found, sum_by_counters}
use Rattle.zq_model.proofs.Sites.{by_site-same}
use Rattle.zq_model.proofs.Sums.{sum_upto-same}
use Rattle.zq_model.specs.Entry.{amount, site_sum}
use Rattle.zq_model.specs.Meaning.{added_by, each_once, is_of, is_same, site_value_of_put, sum_over}
use Rattle.zq_model.specs.Operation.{Operation, has, increment_of}
use Rattle.zq_model.specs.Score.{total}
use Rattle.zq_model.specs.Sets.{IsIn, IsWorld, SITES, at, by_site, last}

pub sum_over-same : (f g : Operation → ℤ) → ((o : Operation) → f o ≡ g o) → (S : List Operation) → sum_over f S ≡ sum_over g S
sum_over-same f g same [] = refl
sum_over-same f g same (o ∷ S) = λ i. same o i +ℤ sum_over-same f g same S i

-- the tests of the site and the heap, in either order
same_tests : (site of heap seen : Bool) (x : ℤ) → (if site then (if of && (heap && seen) then x else pos 0) else pos 0) ≡ (if heap && site then (if (heap && of) && seen then x else pos 0) else pos 0)
same_tests true true true seen x = refl
same_tests true true false seen x = refl
same_tests true false true seen x = refl
same_tests true false false seen x = refl
same_tests false of true seen x = refl
same_tests false of false seen x = refl

amount-if_found : (h : ℕ) (k m : List ℕ) (s n : ℕ) (o : Option Operation) → if_found (λ p. amount h k m s n (Some p)) o ≡ amount h k m s n o
amount-if_found h k m s n None = refl
amount-if_found h k m s n (Some o) = refl

-- the sum by counters is the sum over the site's Bumps
pub site_sum_means : (K : ℕ) (S : List Operation) (p : Operation) (t : ℕ) → IsWorld K S → site_sum S p.heap p.key p.member p.site p.n t ≡ site_value_of_put S p t
site_sum_means K S p t world =
    let f = λ (o : Operation). amount p.heap p.key p.member p.site p.n (Some o) in
    sum_upto-same _ _ (last S p.heap t) (λ i low high. sym (amount-if_found p.heap p.key p.member p.site p.n (at S p.heap t i)))
    ∙ sym (sum_by_counters K S p.heap t f world (last S p.heap t) (omega arith))
    ∙ sum_over-same _ _ (λ o. sym (same_tests (o.site == t) (is_of p.key p.member o) (o.heap == p.heap) (has o.seen p.site p.n) (increment_of o.act))) (each_once S)

-- ---- the sites together

total_zero : (f : ℕ → ℤ) → ((t : ℕ) → f t ≡ pos 0) → (ts : List ℕ) → total (map f ts) ≡ pos 0
total_zero f none [] = refl
total_zero f none (t ∷ ts) = let rest = total_zero f none ts in let here = none t in omega (arith, ints)

total_add : (f g : ℕ → ℤ) (ts : List ℕ) → total (map (λ t. f t +ℤ g t) ts) ≡ total (map f ts) +ℤ total (map g ts)
total_add f g [] = refl
total_add f g (t ∷ ts) = let rest = total_add f g ts in omega (arith, ints)

abbrev at_site : ℕ → ℤ → ℕ → ℤ
at_site s x t = if s == t then x else pos 0

total_past : (s : ℕ) (x : ℤ) (n a : ℕ) → s < a → total (map (at_site s x) (range_with_len a n)) ≡ pos 0
total_past s x zero a past = refl
total_past s x (suc n) a past =
    let rest = total_past s x n (a + 1) (omega arith) in
    let here : at_site s x a ≡ pos 0 = cond-false _ x (pos 0) (ne_eqb s a (λ e. omega arith)) in
    omega (arith, ints)

-- among the sites each has its own once
total_site : (s : ℕ) (x : ℤ) (n a : ℕ) → a ≤ s → s < a + n → total (map (at_site s x) (range_with_len a n)) ≡ x
total_site s x zero a low high = absurd (omega arith)
total_site s x (suc n) a low high = elim (cases_eq s a) [
  | inl same ↦
      let rest = total_past s x n (a + 1) (omega arith) in
      let here : at_site s x a ≡ x = cond-true _ x (pos 0) (eq-eqb s a same) in
      omega (arith, ints)
  | inr other ↦
      let rest = total_site s x n (a + 1) (omega arith) (omega arith) in
      let here : at_site s x a ≡ pos 0 = cond-false _ x (pos 0) (ne_eqb s a other) in
      omega (arith, ints)
]

total_sites : (f : Operation → ℤ) (S : List Operation) → ((o : Operation) → IsIn o S → o.site < SITES) →
    total (by_site (λ t. sum_over (λ o. if o.site == t then f o else pos 0) S)) ≡ sum_over f S
total_sites f [] within = total_zero _ (λ t. refl) (range_with_len 0 SITES)
total_sites f (o ∷ S) within =
    total_add (at_site o.site (f o)) (λ t. sum_over (λ p. if p.site == t then f p else pos 0) S) (range_with_len 0 SITES)
    ∙ (λ i. total_site o.site (f o) SITES 0 (omega arith) (omega (arith, within o (inl refl))) i +ℤ total_sites f S (λ p here. within p (inr here)) i)

-- what stands in the set without repeats stands in the set
pub in_each_once : (o : Operation) (S : List Operation) → IsIn o (each_once S) → IsIn o S
in_each_once o [] here = here
in_each_once o (p ∷ S) here =
    elim (list_any (is_same p) S) as (λ b. IsIn o (if b then each_once S else p ∷ each_once S) → IsIn o (p ∷ S)) [
      | true ↦ λ later. inr (in_each_once o S later)
      | false ↦ λ either. elim either [ inl same ↦ inl same | inr later ↦ inr (in_each_once o S later) ]
    ] here

-- the sites' sums together are the sum over all Bumps
pub total-site_sums : (K : ℕ) (S : List Operation) (p : Operation) → IsWorld K S →
    total (by_site (site_sum S p.heap p.key p.member p.site p.n)) ≡ sum_over (added_by p) (each_once S)
total-site_sums K S p world =
    ap total (by_site-same _ (site_value_of_put S p) (λ t within. site_sum_means K S p t world))
    ∙ total_sites (added_by p) (each_once S) (λ o here. (world.each o (in_each_once o S here)).site)
