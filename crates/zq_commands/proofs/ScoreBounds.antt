-- How many scores are within bounds: those below the greatest without those below the least.

use Rattle.std.proofs.Common.{Bool, List, [], ap, arith, cond, false, inl, inr, length, not, pos, refl, sym, true, true≢false, ℕ, ℤ, ◌&&◌, ◌+ℤ◌, ◌+◌, ◌-◌, ◌∙◌, ◌∷◌, ◌≡◌, ◌≤ℤ◌, ◌≤◌, ◌⊎◌}
use Rattle.std.proofs.lemmas.Int.{ints}
use Rattle.std.proofs.lemmas.List.Sums.{sum_by-cons}
use Rattle.std.specs.Prelude.{count_by, if◌then◌else◌, int_le, int_lt}
use Rattle.zq_model.specs.Meaning.{Scored}
use Rattle.zq_semantics.specs.Ranges.{is_above_limit, is_below, is_below_limit, is_within}
use Rattle.zq_words.specs.declared.bound.Bound.{Bound}
use Rattle.zq_words.specs.declared.bound.Limit.{Limit}
use Rattle.zq_words.specs.declared.bound.Limit.TheVariants.{At, Highest, Lowest}

-- ---- counts

abbrev one : (Scored → Bool) → Scored → ℕ
one p z = cond (p z) 1 0

-- what passes the first test and not the second
abbrev pub but : (Scored → Bool) → (Scored → Bool) → Scored → Bool
but p u z = p z && not (u z)

one_but : (p u : Bool) → (u ≡ true → p ≡ true) → ◌≡◌ {A = ℕ} (cond (p && not u) 1 0 + cond u 1 0) (cond p 1 0)
one_but true true within = refl
one_but true false within = refl
one_but false true within = absurd (true≢false (sym (within refl)))
one_but false false within = refl

none_but : (p u : Bool) → (p ≡ true → u ≡ true) → (◌≡◌ {A = ℕ} (cond (p && not u) 1 0) 0) × (cond p 1 0 ≤ cond u 1 0)
none_but true true within = (refl, omega arith)
none_but true false within = absurd (true≢false (sym (within refl)))
none_but false true within = (refl, omega arith)
none_but false false within = (refl, omega arith)

-- where each that passes the second passes the first
pub count_but : (p u : Scored → Bool) (q : List Scored) → ((z : Scored) → u z ≡ true → p z ≡ true) → count_by (but p u) q + count_by u q ≡ count_by p q
count_but p u [] within = refl
count_but p u (z ∷ q) within =
    let rest = count_but p u q within in
    let first = one_but (p z) (u z) (within z) in
    let both = sum_by-cons (one (but p u)) z q in
    let less = sum_by-cons (one u) z q in
    let all = sum_by-cons (one p) z q in
    omega (arith, rest, first, both, less, all)

-- where each that passes the first passes the second
pub count_none : (p u : Scored → Bool) (q : List Scored) → ((z : Scored) → p z ≡ true → u z ≡ true) → (count_by (but p u) q ≡ 0) × (count_by p q ≤ count_by u q)
count_none p u [] within = (refl, omega arith)
count_none p u (z ∷ q) within =
    let rest = count_none p u q within in
    let first = none_but (p z) (u z) (within z) in
    let both = sum_by-cons (one (but p u)) z q in
    let less = sum_by-cons (one u) z q in
    let all = sum_by-cons (one p) z q in
    (omega (arith, rest.0, first.0, both), omega (arith, rest.1, first.1, less, all))

-- ---- limits

-- a score is below a limit where it is below this number
abbrev edge : Bool → ℤ → ℤ
edge is_out at = if is_out then at else at +ℤ pos 1

below_edge : (is_out : Bool) (at x : ℤ) → is_below_limit is_out (At at) x ≡ int_lt x (edge is_out at)
below_edge true at x = refl
below_edge false at x = grind (arith, ints)

-- of two limits one lies below the other, or they are the same
abbrev IsLower : (Bool × Limit) → (Bool × Limit) → Type 0
IsLower u p = (x : ℤ) → is_below_limit u.0 u.1 x ≡ true → is_below_limit p.0 p.1 x ≡ true

lower_at : (a b : Bool) (l g : ℤ) → edge a l ≤ℤ edge b g → IsLower (a, At l) (b, At g)
lower_at a b l g is = λ x below.
    let first : int_lt x (edge a l) ≡ true = sym (below_edge a l x) ∙ below in
    let second : int_lt x (edge b g) ≡ true = passed x (edge a l) (edge b g) is first in
    below_edge b g x ∙ second
  where
    passed : (x u v : ℤ) → u ≤ℤ v → int_lt x u ≡ true → int_lt x v ≡ true
    passed x u v is below = grind (arith, ints)

either : (u v : ℤ) → (u ≤ℤ v) ⊎ (v ≤ℤ u)
either u v = elim (int_le u v) as (λ b. int_le u v ≡ b → (u ≤ℤ v) ⊎ (v ≤ℤ u)) [
  | true ↦ λ is. inl (low u v is)
  | false ↦ λ is. inr (high u v is)
] refl
  where
    low : (u v : ℤ) → int_le u v ≡ true → u ≤ℤ v
    low u v is = grind (arith, ints)

    high : (u v : ℤ) → int_le u v ≡ false → v ≤ℤ u
    high u v is = grind (arith, ints)

lower : (u p : Bool × Limit) → IsLower u p ⊎ IsLower p u
lower (a, Lowest) (b, k) = inl (λ x below. absurd (true≢false (sym below)))
lower (a, Highest) (b, k) = inr (λ x below. refl)
lower (a, At l) (b, Lowest) = inr (λ x below. absurd (true≢false (sym below)))
lower (a, At l) (b, Highest) = inl (λ x below. refl)
lower (a, At l) (b, At g) = elim (either (edge a l) (edge b g)) [
  | inl is ↦ inl (lower_at a b l g is)
  | inr is ↦ inr (lower_at b a g l is)
]

-- a score is above a bound where it is not below the bound with the limit on its other side
above_is : (is_out : Bool) (limit : Limit) (x : ℤ) → is_above_limit is_out limit x ≡ not (is_below_limit (not is_out) limit x)
above_is is_out Lowest x = refl
above_is is_out Highest x = refl
above_is true (At least) x = turned_lt least x
  where
    turned_lt : (least x : ℤ) → int_lt least x ≡ not (int_le x least)
    turned_lt least x = grind (arith, ints)
above_is false (At least) x = turned_le least x
  where
    turned_le : (least x : ℤ) → int_le least x ≡ not (int_lt x least)
    turned_le least x = grind (arith, ints)

abbrev pub below_limit : Bool → Limit → Scored → Bool
below_limit is_out limit pair = is_below_limit is_out limit pair.0

swap : (a b : Bool) → (a && b) ≡ (b && a)
swap true true = refl
swap true false = refl
swap false true = refl
swap false false = refl

within_but : (min max : Bound) (pair : Scored) → is_within min max pair ≡ but (below_limit max.is_out max.limit) (below_limit (not min.is_out) min.limit) pair
within_but min max pair = ap (λ a. a && is_below max pair.0) (above_is min.is_out min.limit pair.0) ∙ swap (not (is_below_limit (not min.is_out) min.limit pair.0)) (is_below max pair.0)

pub count_same : (p u : Scored → Bool) (q : List Scored) → ((z : Scored) → p z ≡ u z) → count_by p q ≡ count_by u q
count_same p u [] same = refl
count_same p u (z ∷ q) same =
    let rest = count_same p u q same in
    let first : one p z ≡ one u z = ap (λ (b : Bool). cond b 1 0) (same z) in
    let one_side = sum_by-cons (one p) z q in
    let other_side = sum_by-cons (one u) z q in
    omega (arith, rest, first, one_side, other_side)

-- those within the bounds are those below the greatest without those below the least
pub count_within : (min max : Bound) (q : List Scored) →
    count_by (below_limit max.is_out max.limit) q - count_by (below_limit (not min.is_out) min.limit) q ≡ count_by (is_within min max) q
count_within min max q =
    let p : Scored → Bool = below_limit max.is_out max.limit in
    let u : Scored → Bool = below_limit (not min.is_out) min.limit in
    let same = count_same (is_within min max) (but p u) q (within_but min max) in
    elim (lower (not min.is_out, min.limit) (max.is_out, max.limit)) [
      | inl is ↦ let all = count_but p u q (λ z. is z.0) in omega (arith, all, same)
      | inr is ↦ let none = count_none p u q (λ z. is z.0) in omega (arith, none.0, none.1, same)
    ]

-- no score is below the lowest limit, and each is below the highest
pub below_lowest : (is_out : Bool) (q : List Scored) → 0 ≡ count_by (below_limit is_out Lowest) q
below_lowest is_out [] = refl
below_lowest is_out (z ∷ q) =
    let rest = below_lowest is_out q in
    let all = sum_by-cons (one (below_limit is_out Lowest)) z q in
    omega (arith, rest, all)

pub below_highest : (is_out : Bool) (q : List Scored) → length q ≡ count_by (below_limit is_out Highest) q
below_highest is_out [] = refl
below_highest is_out (z ∷ q) =
    let rest = below_highest is_out q in
    let all = sum_by-cons (one (below_limit is_out Highest)) z q in
    omega (arith, rest, all)
