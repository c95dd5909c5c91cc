-- The next operations for a peer.

use Rattle.std.specs.Prelude.{Bool, List, [], drop, false, flat_map, if◌then◌else◌, length, max, nat_lt, slice_index, slice_index_or, take, ℕ, ◌&&◌, ◌-◌, ◌<◌, ◌∷◌, ◌≤◌}
use Rattle.zq_backlog.specs.Log.{Log, raised, risen}
use Rattle.zq_backlog.specs.Written.{spelling}
use Rattle.zq_dots.specs.Placed.{Placed}

-- the bytes after which a batch takes no further operation
abbrev pub MOST_BATCH : ℕ
MOST_BATCH = 65536

-- the operations that are looked at for a batch
abbrev pub MOST_LOOKED : ℕ
MOST_LOOKED = 1024

-- whether a batch is of this site
abbrev pub is_of : List Bool → ℕ → Bool
is_of class t = slice_index_or class t false

-- whether a batch takes the operation
abbrev pub is_wanted : List Bool → List ℕ → Placed → Bool
is_wanted class sent o =
    is_of class o.operation.site && nat_lt (slice_index sent o.operation.site) o.operation.n

-- what is taken of these operations: what is taken has been sent for the next
abbrev pub picked : List Bool → List ℕ → List Placed → List Placed
picked class sent [] = []
picked class sent (o ∷ ops) = if is_wanted class sent o then o ∷ picked class (risen sent o) ops
    else picked class sent ops

-- where a batch from this place on begins
abbrev pub start_of : Log → ℕ → ℕ
start_of l place = max place l.first

-- the operations from a place on
abbrev pub from_place : Log → ℕ → List Placed
from_place l place = drop (place - l.first) l.ops

-- those of them that may be looked at
abbrev pub window : Log → ℕ → List Placed
window l place = take MOST_LOOKED (from_place l place)

-- so many operations from a number on
abbrev pub looked_in : List Placed → ℕ → ℕ → List Placed
looked_in ops from k = take k (take MOST_LOOKED (drop from ops))

-- the operations of a batch that has looked at those from a place up to the next
abbrev pub taken_of : Log → ℕ → List Bool → List ℕ → ℕ → List Placed
taken_of l place class sent next =
    picked class sent (take (next - start_of l place) (window l place))

-- what was sent, with the batch
abbrev pub sent_after : Log → ℕ → List Bool → List ℕ → ℕ → List ℕ
sent_after l place class sent next = raised sent (taken_of l place class sent next)

-- a batch of these takes a further one
abbrev pub IsOpen : ℕ → List Placed → Type 0
IsOpen allow taken = (length taken < allow) × (length (flat_map spelling taken) < MOST_BATCH)

-- a batch looks at so many of these operations: before each it is open, and behind them it is not,
-- or there are no more
pub record IsLooked (class : List Bool) (sent : List ℕ) (allow : ℕ) (ops : List Placed)
    (k : ℕ) : Type 0 where
  pub within : k ≤ length ops
  pub before : (j : ℕ) → j < k → IsOpen allow (picked class sent (take j ops))
  pub ends : k < length ops → IsOpen allow (picked class sent (take k ops)) → ⊥
