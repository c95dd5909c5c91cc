-- The sums of the increments of a site's Bumps that have seen a Put.

use Rattle.std.proofs.Common.{List, None, Some, T, ap, ap₂, arith, false, pos, refl, suc, zero, ℕ, ℤ, ◌+ℤ◌, ◌<◌, ◌∙◌, ◌≡◌, ◌≤◌}
use Rattle.std.proofs.lemmas.Bool.{and_left, and_right, cond-false, false_from_ne_true}
use Rattle.std.proofs.lemmas.Int.{ints}
use Rattle.zq_model.proofs.Dots.{dots_below, seen_last}
use Rattle.zq_model.proofs.Worlds.{IsWithin_heap, at_same, at_some, at_within, last_same}
use Rattle.zq_model.specs.Entry.{amount, site_sum, sum_upto}
use Rattle.zq_model.specs.Operation.{Operation, has, is_on}
use Rattle.zq_model.specs.Sets.{IsClosed, IsIn, IsWorld, at, last}

pub plus_nothing : (x : ℤ) → x +ℤ pos 0 ≡ x
plus_nothing x = omega (arith, ints)

pub sum_upto-same : (f g : ℕ → ℤ) (n : ℕ) → ((i : ℕ) → 0 < i → i ≤ n → f i ≡ g i) → sum_upto f n ≡ sum_upto g n
sum_upto-same f g zero each = refl
sum_upto-same f g (suc n) each = ap₂ (λ x y. x +ℤ y) (sum_upto-same f g n (λ i a b. each i a (omega arith))) (each (suc n) (omega arith) (omega arith))

pub sum_upto-nothing : (f : ℕ → ℤ) (n : ℕ) → ((i : ℕ) → 0 < i → i ≤ n → f i ≡ pos 0) → sum_upto f n ≡ pos 0
sum_upto-nothing f zero each = refl
sum_upto-nothing f (suc n) each = ap₂ (λ x y. x +ℤ y) (sum_upto-nothing f n (λ i a b. each i a (omega arith))) (each (suc n) (omega arith) (omega arith))

-- a closed set has a site's sum where a world round it has no more of the site
pub site_sum_within : (K : ℕ) (S W : List Operation) (h : ℕ) (k m : List ℕ) (s n t : ℕ) → IsWorld K S → IsWorld K W → IsClosed S → IsWithin_heap h S W →
    last W h t ≡ last S h t → site_sum W h k m s n t ≡ site_sum S h k m s n t
site_sum_within K S W h k m s n t inner outer closed within same =
    ap (sum_upto (λ i. amount h k m s n (at W h t i))) same
    ∙ sum_upto-same _ _ (last S h t) (λ i low high.
    ap (amount h k m s n) (at_within K S W h t i inner outer within (dots_below K S h t i inner closed low high)))

pub site_sum-same : (K : ℕ) (S T : List Operation) (h : ℕ) (k m : List ℕ) (s n t : ℕ) → IsWorld K S → IsWorld K T → IsWithin_heap h S T → IsWithin_heap h T S →
    site_sum S h k m s n t ≡ site_sum T h k m s n t
site_sum-same K S T h k m s n t first second forth back =
    ap (sum_upto (λ i. amount h k m s n (at S h t i))) (last_same S T h t forth back)
    ∙ sum_upto-same _ _ (last T h t) (λ i low high. ap (amount h k m s n) (at_same K S T h t i first second forth back))

pub amount_unseen : (h : ℕ) (k m : List ℕ) (s n : ℕ) (o : Operation) → has o.seen s n ≡ false → amount h k m s n (Some o) ≡ pos 0
amount_unseen h k m s n o e = cond-false _ _ _ (and_right (is_on h k m o) _ e)

pub amount_elsewhere : (h : ℕ) (k m : List ℕ) (s n : ℕ) (o : Operation) → is_on h k m o ≡ false → amount h k m s n (Some o) ≡ pos 0
amount_elsewhere h k m s n o e = cond-false _ _ _ (and_left (is_on h k m o) _ e)

-- a site whose operations have not seen the Put adds nothing to it
pub site_sum_unseen : (S : List Operation) (h : ℕ) (k m : List ℕ) (s n t : ℕ) → ((o : Operation) → IsIn o S → o.heap ≡ h → o.site ≡ t → has o.seen s n ≡ false) →
    site_sum S h k m s n t ≡ pos 0
site_sum_unseen S h k m s n t unseen = sum_upto-nothing _ (last S h t) (λ i low high.
    elim (at S h t i) as (λ r. at S h t i ≡ r → amount h k m s n r ≡ pos 0) [
      | None ↦ λ e. refl
      | Some o ↦ λ e. let found : IsIn o S × (o.heap ≡ h) × (o.site ≡ t) × (o.n ≡ i) = at_some S h t i o e in
          amount_unseen h k m s n o (unseen o found.0 found.1 found.2)
    ] refl)

-- a closed set adds nothing to a Put above its vector
pub site_sum_above : (S : List Operation) (h : ℕ) (k m : List ℕ) (s n t : ℕ) → IsClosed S → last S h s < n → site_sum S h k m s n t ≡ pos 0
site_sum_above S h k m s n t closed above = site_sum_unseen S h k m s n t (λ o i a b.
    false_from_ne_true _ (λ known. let most : n ≤ last S h s = seen_last S o h s n closed i a known in absurd (omega arith)))
