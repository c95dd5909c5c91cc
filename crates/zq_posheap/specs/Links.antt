-- How the heap and the map know each other.
use Rattle.std.specs.Prelude.{List, ℕ, ℤ, Some, ◌≡◌, length, map, slice_get}
use Rattle.zq_posheap.specs.declared.heap.Slot.{Slot}

-- each list tells where the other's elements are: i stands at p in the one just where p stands at i
-- in the other
pub record AreInverse (xs ys : List ℕ) : Type 0 where
  pub one_length : length xs ≡ length ys
  pub there : (p i : ℕ) → slice_get xs p ≡ Some i → slice_get ys i ≡ Some p
  pub back : (i p : ℕ) → slice_get ys i ≡ Some p → slice_get xs p ≡ Some i

-- the indices of the members, in the order of the heap
abbrev pub indices : List Slot → List ℕ
indices slots = map (λ s. s.index) slots

-- slots, positions and nears are as many, each position tells the place of its member's slot, and
-- each slot has what is near its member's score
pub record IsLinked (slots : List Slot) (positions : List ℕ) (nears : List ℤ) : Type 0 where
  pub placed : AreInverse (indices slots) positions
  pub as_many : length positions ≡ length nears
  pub near : (p : ℕ) (s : Slot) → slice_get slots p ≡ Some s → slice_get nears s.index ≡ Some s.near
