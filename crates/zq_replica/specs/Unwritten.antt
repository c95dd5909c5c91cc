-- What was drained from a heap and is not on disk yet.

use Rattle.std.specs.Prelude.{Bool, List, None, Option, Some, [], false, length, slice_index_or, sum_by, take, true, ℕ, ◌+◌, ◌++◌, ◌<◌, ◌≡◌, ◌≤◌}
use Rattle.zq_dots.specs.Placed.{Placed}
use Rattle.zq_model.specs.Operation.{has}
use Rattle.zq_replica.specs.declared.unwritten.Unwritten.TheInside.{Inside}

-- the operations, the oldest first, and whether the heap has jumped
pub record Owed : Type 0 where
  pub ops : List Placed
  pub has_jumped : Bool

abbrev pub nothing_owed : Owed
nothing_owed = record { ops = []; has_jumped = false }

-- nothing is kept of a heap that has jumped
abbrev pub jumped : Owed
jumped = record { ops = []; has_jumped = true }

-- it is followed again
abbrev pub followed : Owed → Owed
followed owed = record owed { has_jumped = false }

-- these come behind the others
abbrev pub grown : List Placed → Owed → Owed
grown ops owed = record owed { ops = owed.ops ++ ops }

-- ---- what is taken

abbrev pub MOST_OPS : ℕ
MOST_OPS = 4096

abbrev pub MOST_NAMES : ℕ
MOST_NAMES = 1048576

-- the bytes of an operation's names
abbrev pub names_of : Placed → ℕ
names_of o = length o.operation.key + length o.operation.member

-- behind these a further one is taken
abbrev pub IsShort : List Placed → Type 0
IsShort ops = (length ops < MOST_OPS) × (sum_by names_of ops < MOST_NAMES)

-- a heap of this vector has the operation, where one is given
abbrev pub is_within : Option (List ℕ) → Placed → Bool
is_within None o = true
is_within (Some vector) o = has vector o.operation.site o.operation.n

-- So many of the oldest are taken: each is within the vector, and before it others were few enough;
-- behind them there is no more, they are as many as are taken, or the next is not within.
pub record IsTaken (within : Option (List ℕ)) (ops : List Placed) (k : ℕ) : Type 0 where
  pub most : k ≤ length ops
  pub short : (j : ℕ) → j < k → IsShort (take j ops)
  pub had : (j : ℕ) → j < k → (o : Placed) → o ≡ slice_index_or ops j o →
      is_within within o ≡ true
  pub ends : k < length ops → IsShort (take k ops) → (o : Placed) → o ≡ slice_index_or ops k o →
      is_within within o ≡ false

-- ---- the fields

abbrev pub owed_of : Inside → Owed
owed_of u = record { ops = u.ops.items; has_jumped = u.has_jumped }

-- nothing is kept where the heap has jumped
pub record IsOwed (u : Inside) : Type 0 where
  pub nothing : u.has_jumped ≡ true → u.ops.items ≡ []
