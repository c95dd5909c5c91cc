-- A map's pairs, one after another.
use Rattle.std.specs.Prelude.{AllPairs, Contains, FitsSigned, List, Some, slice_get, ℕ, ℤ, ◌↔◌, ◌≡◌, ◌≢◌}
use Rattle.std.specs.Borrow.{Bor}
use Rattle.std.specs.Cmp.Lexicographic.{slice_cmp}
use Rattle.std.specs.FinMap.{FinMap, get}
use Rattle.std.specs.Int.{w128}
use Rattle.std.specs.Ordering.{nat_cmp}
use Rattle.zq_posheap.specs.Order.{Scored}
use Rattle.zq_posheap.specs.declared.heap.ScoredValue.{ScoredValue}

-- a member with its score and its value
abbrev pub Row : Type 0 → Type 0
Row V = (ℤ × V) × List ℕ

-- a score with the member that is lent
abbrev pub lent_pair : ℤ × Bor (List ℕ) → Scored
lent_pair pair = (pair.0, pair.1.now)

-- a row with its member and its value lent
abbrev pub lent_row : {V : Type 0} → (ℤ × Bor (List ℕ)) × Bor V → Row V
lent_row row = ((row.0.0, row.1.now), row.0.1.now)

-- the row of an entry of the map
abbrev pub entry_row : {V : Type 0} → List ℕ × ScoredValue V → Row V
entry_row entry = ((entry.1.score, entry.1.value), entry.0)

-- each score is a number of 128 bits
abbrev pub AllInRange : {V : Type 0} → List (Row V) → Type 0
AllInRange {V} rows = (i : ℕ) (row : Row V) → slice_get rows i ≡ Some row → FitsSigned w128 row.0.0

-- the list has just what the map has, and no two of one member
pub record IsListing {X : Type 0} (m : FinMap (slice_cmp nat_cmp) X)
    (pairs : List (X × List ℕ)) : Type 0 where
  pub has : (pair : X × List ℕ) → (Contains pairs pair ↔ (get m pair.1 ≡ Some pair.0))
  pub once : AllPairs (λ x y. x.1 ≢ y.1) pairs

-- the score and the member of a row
abbrev pub scored_of : {V : Type 0} → Row V → Scored
scored_of row = (row.0.0, row.1)
