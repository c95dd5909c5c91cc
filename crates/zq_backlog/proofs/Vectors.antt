-- Vectors of which a counter is set, and those that come to know operations.

use Rattle.std.proofs.Common.{List, [], ap, arith, get_or, length, max, refl, subst, suc, sum, sum_by, zero, slice_set, ℕ, ◌*◌, ◌+◌, ◌<◌, ◌∙◌, ◌∷◌, ◌≡◌, ◌≤◌}
use Rattle.std.proofs.lemmas.List.{get_or-set_same, get_or_default, length-set}
use Rattle.std.proofs.lemmas.List.Sums.{sum-map, sum_by-le, sum_by-le-sum_by, sum_by-set}
use Rattle.std.specs.List.{range_with_len}
use Rattle.zq_backlog.specs.Log.{risen}
use Rattle.zq_dots.proofs.Counters.{last_is, sites_is}
use Rattle.zq_dots.specs.Placed.{Placed}
use Rattle.zq_model.proofs.Sites.{by_site_from}
use Rattle.zq_model.specs.Image.{join_vector}
use Rattle.zq_model.specs.Sets.{IsCounters, LAST, SITES, by_site}

-- a bound of a counter and of what is set is one of what comes of it
pub set_le : (v : List ℕ) (s n m t : ℕ) → get_or v t 0 ≤ m → n ≤ m → get_or (slice_set v s n) t 0 ≤ m
set_le [] s n m t was new = was
set_le (x ∷ v) zero n m zero was new = new
set_le (x ∷ v) zero n m (suc t) was new = was
set_le (x ∷ v) (suc s) n m zero was new = was
set_le (x ∷ v) (suc s) n m (suc t) was new = set_le v s n m t was new

pub set_ge : (v : List ℕ) (s n m t : ℕ) → m ≤ get_or v t 0 → m ≤ n → m ≤ get_or (slice_set v s n) t 0
set_ge [] s n m t was new = was
set_ge (x ∷ v) zero n m zero was new = new
set_ge (x ∷ v) zero n m (suc t) was new = was
set_ge (x ∷ v) (suc s) n m zero was new = was
set_ge (x ∷ v) (suc s) n m (suc t) was new = set_ge v s n m t was new

pub set_counters : (v : List ℕ) (s n : ℕ) → IsCounters v → n ≤ LAST → IsCounters (slice_set v s n)
set_counters v s n counters small = record {
  wide = length-set v s n ∙ counters.wide;
  bounded = λ t. set_le v s n LAST t (counters.bounded t) small;
}

-- a counter that rises is not below what it was
pub rises : (v : List ℕ) (s n t : ℕ) → get_or v s 0 ≤ n → get_or v t 0 ≤ get_or (slice_set v s n) t 0
rises [] s n t h = omega arith
rises (x ∷ v) zero n zero h = h
rises (x ∷ v) zero n (suc t) h = omega arith
rises (x ∷ v) (suc s) n zero h = omega arith
rises (x ∷ v) (suc s) n (suc t) h = rises v s n t h

-- what is known stays known
pub risen_above : (v : List ℕ) (o : Placed) (t : ℕ) → get_or v t 0 ≤ get_or (risen v o) t 0
risen_above v o t = rises v o.operation.site (max (get_or v o.operation.site 0) o.operation.n) t (omega arith)

-- the operation is known
pub risen_own : (v : List ℕ) (o : Placed) → o.operation.site < length v → o.operation.n ≤ get_or (risen v o) o.operation.site 0
risen_own v o h =
    let own = get_or-set_same v o.operation.site (max (get_or v o.operation.site 0) o.operation.n) 0 h in
    omega arith

pub risen_counters : (v : List ℕ) (o : Placed) → IsCounters v → o.operation.n ≤ LAST → IsCounters (risen v o)
risen_counters v o counters small =
    let own = counters.bounded o.operation.site in
    set_counters v o.operation.site (max (get_or v o.operation.site 0) o.operation.n) counters (omega arith)

-- ---- sums

pub sum_set : (xs : List ℕ) (i y : ℕ) → i < length xs → sum (slice_set xs i y) + get_or xs i 0 ≡ sum xs + y
sum_set xs i y h = sum_by-set (λ x. x) xs i y 0 h

sum_bound : (b : ℕ) (xs : List ℕ) → ((t : ℕ) → get_or xs t 0 ≤ b) → sum xs ≤ length xs * b
sum_bound b xs each = sum_by-le (λ x. x) b xs (λ k d in'. subst (λ x. x ≤ b) (get_or_default xs k 0 d in') (each k))

-- all counters together
pub sum_small : (v : List ℕ) → IsCounters v → sum v ≤ 18014398509481920
sum_small v counters =
    let sum_is = sum_bound LAST v counters.bounded in
    let small : sum v ≤ SITES * LAST = subst (λ n. sum v ≤ n * LAST) counters.wide sum_is in
    let numbers : sum v ≤ 64 * 281474976710655 = subst (λ n. sum v ≤ 64 * n) last_is (subst (λ n. sum v ≤ n * LAST) sites_is small) in
    omega arith

-- a join has no fewer
pub sum_join : (u v : List ℕ) → length u ≡ SITES → sum u ≤ sum (join_vector u v)
sum_join u v wide =
    let whole : u ≡ by_site (λ t. get_or u t 0) = by_site_from (λ t. get_or u t 0) u 0 wide (λ s h. refl) in
    let mine : sum (by_site (λ t. get_or u t 0)) ≡ sum_by (λ t. get_or u t 0) (range_with_len 0 SITES) = sum-map (λ t. get_or u t 0) (range_with_len 0 SITES) in
    let both : sum (join_vector u v) ≡ sum_by (λ t. max (get_or u t 0) (get_or v t 0)) (range_with_len 0 SITES) = sum-map (λ t. max (get_or u t 0) (get_or v t 0)) (range_with_len 0 SITES) in
    let less : sum_by (λ t. get_or u t 0) (range_with_len 0 SITES) ≤ sum_by (λ t. max (get_or u t 0) (get_or v t 0)) (range_with_len 0 SITES) = sum_by-le-sum_by (λ t. get_or u t 0) (λ t. max (get_or u t 0) (get_or v t 0)) (range_with_len 0 SITES) (λ t. omega arith) in
    let same : sum u ≡ sum (by_site (λ t. get_or u t 0)) = ap sum whole in
    omega arith
