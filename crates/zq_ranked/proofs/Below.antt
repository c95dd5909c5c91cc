-- How many scores are below one.
use Rattle.std.proofs.Common.{◌≡◌, ℕ, ℤ, pos, ◌+ℤ◌, ◌<ℤ◌, true, false, FitsSigned, cond, List, [], ◌∷◌, length, refl, ap, ◌∙◌, arith}
use Rattle.std.specs.Cmp.Lexicographic.{slice_cmp}
use Rattle.std.specs.Int.{w128}
use Rattle.std.specs.List.{AllByRecursion, count_by}
use Rattle.std.specs.Ordering.{MatchOrdering, int_cmp, is_le, is_lt, nat_cmp, ordering_then}
use Rattle.std.specs.declared.cmp.Ordering.{Ordering}
use Rattle.std.specs.declared.cmp.Ordering.TheVariants.{Equal, Greater, Less}
use borrow.Author.Gap.{up_fits}
use lib.Signed.{lt_z}
use Rattle.std.proofs.lemmas.Cmp.{int_ranked}
use Rattle.std.proofs.lemmas.Int.{ints}
use Rattle.std.proofs.lemmas.List.Sums.{sum_by-cons}
use Rattle.zq_ranked.specs.Order.{Scored, is_below, rank_of}

-- no bytes go before none
before_none : (o : Ordering) (m : List ℕ) → is_lt (ordering_then o (slice_cmp nat_cmp m [])) ≡ is_lt o
before_none Less m = refl
before_none Equal [] = refl
before_none Equal (y ∷ ys) = refl
before_none Greater m = refl

-- the rank of a score with no bytes
pub rank_below : (s : ℤ) (xs : List Scored) → rank_of (s, []) xs ≡ count_by (is_below s false) xs
rank_below s xs = λ i. count_by (λ pair. before_none (int_cmp pair.0 s) pair.1 i) xs

below_next : (e s n : ℤ) → n ≡ s +ℤ pos 1 → is_lt (int_cmp e n) ≡ is_le (int_cmp e s)
below_next e s n h = by (int_cmp e n) (int_cmp e s) (int_ranked e n _ refl) (int_ranked e s _ refl) where
  by : (o r : Ordering) → MatchOrdering o (e <ℤ n) (e ≡ n) (n <ℤ e) → MatchOrdering r (e <ℤ s) (e ≡ s) (s <ℤ e) → is_lt o ≡ is_le r
  by Less Less a b = refl
  by Less Equal a b = refl
  by Less Greater a b = absurd (omega (arith, ints, a, b, h))
  by Equal Less a b = absurd (omega (arith, ints, a, b, h))
  by Equal Equal a b = absurd (omega (arith, ints, a, b, h))
  by Equal Greater a b = refl
  by Greater Less a b = absurd (omega (arith, ints, a, b, h))
  by Greater Equal a b = absurd (omega (arith, ints, a, b, h))
  by Greater Greater a b = refl

-- the rank of the next score with no bytes
pub rank_next : (s n : ℤ) (xs : List Scored) → n ≡ s +ℤ pos 1 → rank_of (n, []) xs ≡ count_by (is_below s true) xs
rank_next s n xs h = rank_below n xs ∙ (λ i. count_by (λ pair. below_next pair.0 s n h i) xs)

upto_last : (e s : ℤ) → FitsSigned w128 e → (FitsSigned w128 (s +ℤ pos 1) → ⊥) → FitsSigned w128 s → is_le (int_cmp e s) ≡ true
upto_last e s a b c =
    elim (lt_z e s) as (λ p. is_le (cond p Less (cond (lt_z s e) Greater Equal)) ≡ true) [
      | true ↦ refl
      | false ↦ elim (lt_z s e) as (λ q. lt_z s e ≡ q → is_le (cond q Greater Equal) ≡ true) [
        | true ↦ λ h. absurd (b (up_fits w128 s e h c a))
        | false ↦ λ h. refl
      ] refl
    ]

-- no score is above the last
pub count_all : (s : ℤ) (xs : List Scored) → FitsSigned w128 s → (FitsSigned w128 (s +ℤ pos 1) → ⊥) → AllByRecursion (λ pair. FitsSigned w128 pair.0) xs → length xs ≡ count_by (is_below s true) xs
count_all s [] a b h = refl
count_all s (x ∷ xs) a b h =
    let n = sum_by-cons (λ y. cond (is_below s true y) 1 0) x xs in
    let k : cond {A = ℕ} (is_below s true x) 1 0 ≡ 1 = ap (λ p. cond p 1 0) (upto_last x.0 s h.0 b a) in
    let r = count_all s xs a b h.1 in
    omega (arith, n, k, r)
