-- What a shard keeps of each of its entries.

use Rattle.std.specs.Prelude.{List, Some, slice_index, ℕ, ◌*◌, ◌≡◌}
use Rattle.zq_model.specs.Entry.{Addition, sum_at}
use Rattle.zq_model.specs.Image.{Entry, addition_at}
use Rattle.zq_model.specs.Joining.{IsKnown}
use Rattle.zq_model.specs.Operation.{IsWithin, MOST}

-- the amount of each sum of the site t is at most this
abbrev pub AreSumsWithin : ℕ → ℕ → Entry → Type 0
AreSumsWithin t bound entry = (s : ℕ) (a : Addition) → addition_at entry s ≡ Some a →
    IsWithin bound (sum_at a t)

-- the vector has the dot of each addition, and each site's sums are what as many Bumps as it has of
-- the site can come to
pub record IsEntryWithin (vector : List ℕ) (entry : Entry) : Type 0 where
  pub known : (s : ℕ) (a : Addition) → addition_at entry s ≡ Some a → IsKnown vector s a.n
  pub sums : (t : ℕ) → AreSumsWithin t (MOST * slice_index vector t) entry
