-- What sites have when each of them met each other one.

use Rattle.std.specs.Prelude.{List, Some, slice_get, true, ℕ, ◌<◌, ◌≡◌}
use Rattle.zq_drill.specs.Limits.{heap_count, site_count}
use Rattle.zq_drill.specs.Meetings.{AreMeetings, round}
use Rattle.zq_drill.specs.SiteHandles.{Place}
use Rattle.zq_model.specs.Sets.{covers}
use Rattle.zq_spread.specs.Calls.{HasSeenBook}
use Rattle.zq_spread.specs.declared.pass.Pass.{Pass}

-- the pass has seen the heap with all of this vector in it
abbrev pub Knows : Pass → ℕ → List ℕ → Type 0
Knows pass heap vector =
    HasSeenBook pass heap (λ b. (b.heap ≡ heap) × (covers b.state.vector vector ≡ true))

-- so has the pass of this place
abbrev pub KnowsAt : List Place → ℕ → ℕ → List ℕ → Type 0
KnowsAt places i heap vector = (place : Place) × (slice_get places i ≡ Some place)
    × Knows place.pass heap vector

-- where each of three sites met each other one, all have then what one of them had in a heap; that
-- is said of those whose pass had seen the heap at all
abbrev pub AllHaveAll : Type 0
AllHaveAll =
    (before after : List Place) → AreMeetings round before after → (i j heap : ℕ) → i < site_count →
    j < site_count → heap < heap_count
    → (vector some : List ℕ) → KnowsAt before i heap vector → KnowsAt before j heap some →
    KnowsAt after j heap vector
