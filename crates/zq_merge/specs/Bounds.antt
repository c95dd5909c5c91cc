-- What an addition in a state keeps.

use Rattle.std.specs.Prelude.{List, length, slice_index, ℕ, ℤ, ◌*◌, ◌<◌, ◌≡◌}
use Rattle.zq_entry.specs.Sums.{sum_found}
use Rattle.zq_model.specs.Entry.{sum_at}
use Rattle.zq_model.specs.Joining.{IsKnown}
use Rattle.zq_model.specs.Operation.{IsWithin, MOST}
use Rattle.zq_model.specs.Rows.{OfSite}
use Rattle.zq_model.specs.Sets.{IsIn, SITES}

-- each sum is what as many Bumps as the vector has of its site can come to
abbrev pub AreSumsBounded : List ℕ → List (ℕ × ℤ) → Type 0
AreSumsBounded vector sums = (t : ℕ) → IsWithin (MOST * slice_index vector t) (sum_found t sums)

-- the vector has the addition's dot, and its numbers are in range
pub record IsAdditionBounded (vector : List ℕ) (p : OfSite) : Type 0 where
  pub counter : IsKnown vector p.0 p.1.n
  pub score : IsWithin MOST p.1.score
  pub wide : length p.1.sums ≡ SITES
  pub sums : (t : ℕ) → t < SITES → IsWithin (MOST * slice_index vector t) (sum_at p.1 t)

abbrev pub AreAdditionsBounded : List ℕ → List OfSite → Type 0
AreAdditionsBounded vector additions = (p : OfSite) → IsIn p additions → IsAdditionBounded vector p
