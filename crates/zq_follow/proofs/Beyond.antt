-- How much one vector has beyond another.

use Rattle.std.proofs.Common.{Bool, List, Option, Some, [], arith, cond, false, map, max, subst, sum, sym, true, ℕ, ◌+◌, ◌-◌, ◌∷◌, ◌≡◌, ◌≤◌}
use Rattle.std.proofs.lemmas.List.Sums.{sum_by-cons}
use Rattle.std.specs.List.{range_with_len}
use Rattle.std.specs.Prelude.{slice_index}
use Rattle.zq_model.specs.Sets.{SITES}
use Rattle.zq_follow.specs.Counts.{beyond, beyond_at}
use Rattle.zq_follow.specs.Follow.{allowance, bound, pushed, underway}
use Rattle.zq_follow.specs.FollowLaws.{WindowIsKept}
use Rattle.zq_follow.specs.SiteSet.{has_site}
use Rattle.zq_follow.specs.declared.follow.Follow.{Follow}

-- a sum of terms, none of which is above the sum of two others
sum_within : (f g h : ℕ → ℕ) (xs : List ℕ) → ((x : ℕ) → f x ≤ g x + h x) →
    sum (map f xs) ≤ sum (map g xs) + sum (map h xs)
sum_within f g h [] each = omega arith
sum_within f g h (x ∷ xs) each =
    let here = each x in
    let later = sum_within f g h xs each in
    omega (arith, sum_by-cons (λ n. n) (f x) (map f xs), sum_by-cons (λ n. n) (g x) (map g xs), sum_by-cons (λ n. n) (h x) (map h xs))

step_within : (b : Bool) (u v w : ℕ) → cond b (u - w) 0 ≤ cond b (v - w) 0 + cond b (u - v) 0
step_within true u v w = omega arith
step_within false u v w = omega arith

-- what u has beyond w is at most what v has beyond w, and u beyond v
pub beyond_within : (sites : List Bool) (u v w : List ℕ) →
    beyond sites u w ≤ beyond sites v w + beyond sites u v
beyond_within sites u v w =
    sum_within (beyond_at sites u w) (beyond_at sites v w) (beyond_at sites u v) (range_with_len 0 SITES)
    (λ o. step_within (has_site sites o) (slice_index u o) (slice_index v o) (slice_index w o))

kept : (most before more after : ℕ) → more ≤ most - before → after ≤ before + more →
    after ≤ max most before
kept most before more after few within = omega arith

allowed : (f : Follow) (sent after : List ℕ) (next : ℕ) (o : Option (List ℕ)) → o ≡ Some sent →
    beyond f.class after sent ≤ allowance (record f { sent = o }) →
    underway (pushed after next f) ≤ max (bound f) (underway (record f { sent = o }))
allowed f sent after next o is =
    subst (λ (s : Option (List ℕ)). beyond f.class after sent ≤ allowance (record f { sent = s }) → underway (pushed after next f) ≤ max (bound f) (underway (record f { sent = s }))) (sym is)
    (λ few. kept (bound f) (beyond f.class sent f.heard) (beyond f.class after sent) (beyond f.class after f.heard) few (beyond_within f.class after sent f.heard))

pub window_is_kept : WindowIsKept
window_is_kept f sent after next is few = allowed f sent after next f.sent is few
