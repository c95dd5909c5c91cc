-- Operations, and what a vector says of a dot.

use Rattle.std.specs.Cmp.Lexicographic.{pointwise}
use Rattle.std.specs.Prelude.{Bool, List, false, nat_eq, nat_le, nat_lt, neg_ℤ, pos, slice_index, true, ℕ, ℤ, ◌&&◌, ◌+◌, ◌==◌, ◌≤ℤ◌}

-- what an operation does to its member
pub data Act : Type 0 where
  Put : (score : ℤ) → Act
  Bump : (increment : ℤ) → Act
  Drop : Act

-- an operation: its heap, its dot (site, n), what its site had seen, and the act on a member of a
-- key
pub record Operation : Type 0 where
  pub heap : ℕ
  pub site : ℕ
  pub n : ℕ
  pub seen : List ℕ
  pub key : List ℕ
  pub member : List ℕ
  pub act : Act

-- the operation of an act by a site whose image of the heap has this vector
abbrev pub operation_over : ℕ → List ℕ → ℕ → List ℕ → List ℕ → Act → Operation
operation_over heap vector site key member act = record {
  heap = heap;
  site = site;
  n = slice_index vector site + 1;
  seen = vector;
  key = key;
  member = member;
  act = act;
}

-- whether the dot (s, n) is in the vector
abbrev pub has : List ℕ → ℕ → ℕ → Bool
has v s n = nat_lt 0 n && nat_le n (slice_index v s)

abbrev pub is_put : Act → Bool
is_put (Put score) = true
is_put (Bump increment) = false
is_put Drop = false

abbrev pub is_bump : Act → Bool
is_bump (Put score) = false
is_bump (Bump increment) = true
is_bump Drop = false

-- whether the act takes away what it has seen
abbrev pub is_removal : Act → Bool
is_removal (Put score) = true
is_removal (Bump increment) = false
is_removal Drop = true

-- the score of a Put
abbrev pub score_put : Act → ℤ
score_put (Put score) = score
score_put (Bump increment) = pos 0
score_put Drop = pos 0

-- what the act adds to the additions that it has seen
abbrev pub increment_of : Act → ℤ
increment_of (Put score) = pos 0
increment_of (Bump increment) = increment
increment_of Drop = pos 0

-- whether the operation is on the member m of the key k, in the heap h
abbrev pub is_on : ℕ → List ℕ → List ℕ → Operation → Bool
is_on h k m o = (o.heap == h) && (pointwise nat_eq o.key k && pointwise nat_eq o.member m)

-- the amount of a score or an increment is at most this
abbrev pub MOST : ℕ
MOST = 9007199254740992

-- the most bytes of a key and of a member
abbrev pub LONGEST : ℕ
LONGEST = 1048576

-- the amount of x is at most b
abbrev pub IsWithin : ℕ → ℤ → Type 0
IsWithin b x = (neg_ℤ (pos b) ≤ℤ x) × (x ≤ℤ pos b)

-- the act's score or increment is in range
abbrev pub IsAct : Act → Type 0
IsAct (Put score) = IsWithin MOST score
IsAct (Bump increment) = IsWithin MOST increment
IsAct Drop = Unit {0}
