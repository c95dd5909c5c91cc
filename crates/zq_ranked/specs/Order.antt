-- The order of members with scores.
use Rattle.std.specs.Prelude.{Bool, FitsSigned, List, cond, count_by, get_or, length, ℕ, ℤ, ◌<◌, ◌≡◌}
use Rattle.std.specs.Int.{w128}
use Rattle.std.specs.List.{AllByRecursion}
use Rattle.std.specs.Cmp.Lexicographic.{slice_cmp}
use Rattle.std.specs.List.Sorted.{IsStrictlySortedBy}
use Rattle.std.specs.Ordering.{int_cmp, is_le, is_lt, nat_cmp, on, then_cmp}
use Rattle.std.specs.declared.cmp.Ordering.{Ordering}
use Rattle.std.specs.declared.cmp.Ordering.TheVariants.{Less}

-- a member with its score
abbrev pub Scored : Type 0
Scored = ℤ × List ℕ

-- by score, and then by the member's bytes
abbrev pub scored_cmp : Scored → Scored → Ordering
scored_cmp = then_cmp (on (λ x. x.0) int_cmp) (on (λ x. x.1) (slice_cmp nat_cmp))

-- whether a pair goes before another
abbrev pub goes_before : Scored → Scored → Bool
goes_before target pair = is_lt (scored_cmp pair target)

-- how many of these pairs go before another
abbrev pub rank_of : Scored → List Scored → ℕ
rank_of target pairs = count_by (goes_before target) pairs

-- each of these pairs goes before another
pub record AreBefore (target : Scored) (pairs : List Scored) : Type 0 where
  pub each : (place : ℕ) (d : Scored) → place < length pairs →
      scored_cmp (get_or pairs place d) target ≡ Less

-- each of these pairs goes after another
pub record AreAfter (target : Scored) (pairs : List Scored) : Type 0 where
  pub each : (place : ℕ) (d : Scored) → place < length pairs →
      scored_cmp target (get_or pairs place d) ≡ Less

-- whether a pair's score is below another, or perhaps that very one
abbrev pub is_below : ℤ → Bool → Scored → Bool
is_below score or_equal pair =
    cond or_equal (is_le (int_cmp pair.0 score)) (is_lt (int_cmp pair.0 score))

-- each pair goes before those after it, and each score is a number of 128 bits
pub record IsRanking (pairs : List Scored) : Type 0 where
  pub sorted : IsStrictlySortedBy scored_cmp pairs
  pub in_range : AllByRecursion (λ pair. FitsSigned w128 pair.0) pairs
