-- The bounds that an image's numbers and bytes keep, which an image that comes from elsewhere has
-- to keep too.

use Rattle.std.specs.Prelude.{List, length, slice_index, ℕ, ◌*◌, ◌<◌, ◌≡◌, ◌≤◌}
use Rattle.zq_model.specs.Entry.{Addition, sum_at}
use Rattle.zq_model.specs.Heaps.{heap_of}
use Rattle.zq_model.specs.Image.{Image}
use Rattle.zq_model.specs.Joining.{HasAddition, IsKnown}
use Rattle.zq_model.specs.Operation.{IsWithin, LONGEST, MOST, Operation}
use Rattle.zq_model.specs.Rows.{AreEntries, Row}
use Rattle.zq_model.specs.Sets.{IsCounters, IsIn, SITES}

-- the key and the member of the operation are short enough
pub record HasShortNames (o : Operation) : Type 0 where
  pub key : length o.key ≤ LONGEST
  pub member : length o.member ≤ LONGEST

-- what an addition of the site s at the member m of the key k keeps, in a heap of K whose vector is
-- v
pub record IsBoundedAt (K heap : ℕ) (v k m : List ℕ) (s : ℕ) (x : Addition) : Type 0 where
  pub placed : heap_of k m K ≡ heap
  pub key : length k ≤ LONGEST
  pub member : length m ≤ LONGEST
  pub counter : IsKnown v s x.n
  pub score : IsWithin MOST x.score
  pub wide : length x.sums ≡ SITES
  pub sums : (t : ℕ) → t < SITES → IsWithin (MOST * slice_index v t) (sum_at x t)

-- an image of a heap, of K, whose counters are in range, whose entries have a place for each site
-- and an addition, and whose additions keep their bounds
pub record IsBounded (K heap : ℕ) (a : Image) : Type 0 where
  pub counters : IsCounters a.vector
  pub entries : AreEntries a.members
  pub additions : (k m : List ℕ) (s : ℕ) (x : Addition) → HasAddition a k m s x →
      IsBoundedAt K heap a.vector k m s x

-- the row's additions keep their bounds
abbrev pub IsBoundedRow : ℕ → ℕ → List ℕ → Row → Type 0
IsBoundedRow K heap v row = (s : ℕ) (x : Addition) → IsIn (s, x) row.additions →
    IsBoundedAt K heap v row.key row.member s x
