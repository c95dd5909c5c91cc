-- A site's sum is at most the greatest increment times its counter.
use Rattle.std.proofs.Common.{◌≡◌, ◌*◌, ◌+◌, ◌<◌, ◌≤◌, ℕ, ℤ, pos, ◌+ℤ◌, zero, suc, cond, true, false, List, None, Some, refl, subst, sym, arith, mul-suc, ◌&&◌, slice_index}
use Rattle.std.proofs.lemmas.Int.{ints}
use Rattle.zq_model.proofs.Kept.{kept_from, kept_of}
use Rattle.zq_model.proofs.Sites.{by_site-at}
use Rattle.zq_model.proofs.Worlds.{at_some}
use Rattle.zq_model.specs.Entry.{Addition, amount, site_sum, sum_at, sum_upto}
use Rattle.zq_model.specs.Image.{image_of}
use Rattle.zq_model.specs.Joining.{HasAddition}
use Rattle.zq_model.specs.Operation.{Act, Bump, Drop, IsAct, IsWithin, MOST, Operation, Put, has, increment_of, is_on}
use Rattle.zq_model.specs.Sets.{IsWorld, SITES, at, last}

pub within_zero : (b : ℕ) → IsWithin b (pos 0)
within_zero b = omega (arith, ints)

pub within_add : (b c : ℕ) (x y : ℤ) → IsWithin b x → IsWithin c y → IsWithin (b + c) (x +ℤ y)
within_add b c x y p q = omega (arith, ints)

pub within_more : (b c : ℕ) (x : ℤ) → b ≤ c → IsWithin b x → IsWithin c x
within_more b c x le p = omega (arith, ints)

-- a sum of n numbers of an amount up to b has an amount up to b * n
within_sum_upto : (b : ℕ) (f : ℕ → ℤ) → ((i : ℕ) → IsWithin b (f i)) → (n : ℕ) → IsWithin (b * n) (sum_upto f n)
within_sum_upto b f each zero = within_zero (b * 0)
within_sum_upto b f each (suc n) = subst (λ c. IsWithin c (sum_upto f (suc n))) (sym (mul-suc b n)) (within_add (b * n) b _ _ (within_sum_upto b f each n) (each (suc n)))

within_increment : (act : Act) → IsAct act → IsWithin MOST (increment_of act)
within_increment (Put score) is = within_zero MOST
within_increment (Bump increment) is = is
within_increment Drop is = within_zero MOST

within_amount : (K : ℕ) (S : List Operation) (h : ℕ) (k m : List ℕ) (s n t i : ℕ) → IsWorld K S → IsWithin MOST (amount h k m s n (at S h t i))
within_amount K S h k m s n t i world =
    elim (at S h t i) as (λ r. at S h t i ≡ r → IsWithin MOST (amount h k m s n r)) [
      | None ↦ λ none. within_zero MOST
      | Some o ↦ λ found.
          elim (is_on h k m o && has o.seen s n) as (λ b. IsWithin MOST (cond b (increment_of o.act) (pos 0))) [
            | true ↦ within_increment o.act (world.each o (at_some S h t i o found).0).act
            | false ↦ within_zero MOST
          ]
    ] refl

pub within_site_sum : (K : ℕ) (S : List Operation) (h : ℕ) (k m : List ℕ) (s n t : ℕ) → IsWorld K S → IsWithin (MOST * last S h t) (site_sum S h k m s n t)
within_site_sum K S h k m s n t world = within_sum_upto MOST _ (λ i. within_amount K S h k m s n t i world) (last S h t)

pub within_sum_at : (K : ℕ) (S : List Operation) (h : ℕ) (k m : List ℕ) (s t : ℕ) (x : Addition) → IsWorld K S → HasAddition (image_of S h) k m s x → t < SITES →
    IsWithin (MOST * slice_index (image_of S h).vector t) (sum_at x t)
within_sum_at K S h k m s t x world here site =
    let from = kept_from S h k m s x here in
    let counter = by_site-at (last S h) t 0 site in
    let sum = by_site-at (site_sum S h k m s from.0.n) t (pos 0) site in
    subst (λ a. IsWithin (MOST * slice_index (image_of S h).vector t) (sum_at a t)) from.2
    (subst (λ c. IsWithin (MOST * c) (sum_at (kept_of S h k m s from.0) t)) (sym counter)
    (subst (IsWithin (MOST * last S h t)) (sym sum) (within_site_sum K S h k m s from.0.n t world)))
