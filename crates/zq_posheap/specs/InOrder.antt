-- A map's pairs by score and then by bytes.
use Rattle.std.specs.Prelude.{Contains, IsPermutation, List, false, length, ℕ, ℤ, ◌++◌, ◌≡◌}
use Rattle.std.specs.Borrow.{Bor}
use Rattle.std.specs.List.Sorted.{IsStrictlySortedBy}
use Rattle.std.specs.Ordering.{is_lt}
use Rattle.zq_posheap.specs.Listing.{IsListing, lent_pair}
use Rattle.zq_posheap.specs.Members.{Scores}
use Rattle.zq_posheap.specs.Order.{Scored, scored_cmp}

-- a list of the map's pairs, where each goes before those after it
pub record ListsInOrder (scores : Scores) (pairs : List Scored) : Type 0 where
  pub lists : IsListing scores pairs
  pub rises : IsStrictlySortedBy scored_cmp pairs

-- firsts has so many of all, and none of the others goes before one of them
pub record Splits (all firsts : List (ℤ × Bor (List ℕ))) (count : ℕ) : Type 0 where
  pub others : List (ℤ × Bor (List ℕ))
  pub permutation : IsPermutation all (firsts ++ others)
  pub len : length firsts ≡ count
  pub split : (x y : ℤ × Bor (List ℕ)) → Contains firsts x → Contains others y →
      is_lt (scored_cmp (lent_pair y) (lent_pair x)) ≡ false

-- lasts has all but so many of all, and none of these goes after one of it
pub record Leaves (all lasts : List (ℤ × Bor (List ℕ))) (count : ℕ) : Type 0 where
  pub firsts : List (ℤ × Bor (List ℕ))
  pub permutation : IsPermutation all (firsts ++ lasts)
  pub len : length firsts ≡ count
  pub split : (x y : ℤ × Bor (List ℕ)) → Contains firsts x → Contains lasts y →
      is_lt (scored_cmp (lent_pair y) (lent_pair x)) ≡ false
