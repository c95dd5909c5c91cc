-- Which vectors have a spelling.

use Rattle.std.specs.Prelude.{List, None, Option, Some, if◌then◌else◌, slice_index, ℕ, ◌-◌, ◌==◌, ◌≡◌, ◌≤◌}
use Rattle.zq_model.specs.Sets.{LAST, by_site}

-- nothing is known
abbrev pub no_counters : List ℕ
no_counters = by_site (λ _. 0)

-- the sites that a dense vector has a counter for
unfoldable pub DENSE_SITES : ℕ
DENSE_SITES = 8

-- it knows nothing of the other sites
abbrev pub IsDense : List ℕ → Type 0
IsDense counters = (t : ℕ) → DENSE_SITES ≤ t → slice_index counters t ≡ 0

-- the greatest counter of the site s in a vector; where it is what an operation of the site own has
-- seen, its own is the next, and there is one
abbrev pub limit_of : Option ℕ → ℕ → ℕ
limit_of None s = LAST
limit_of (Some own) s = if s == own then LAST - 1 else LAST

-- each counter is up to its greatest
abbrev pub IsWithinLimits : Option ℕ → List ℕ → Type 0
IsWithinLimits own counters = (t : ℕ) → slice_index counters t ≤ limit_of own t
