-- What two vectors say of some sites.

use Rattle.std.specs.Prelude.{Bool, List, if◌then◌else◌, max, nat_lt, slice_index, slice_set, sum, ℕ, ◌&&◌, ◌-◌}
use Rattle.zq_follow.specs.SiteSet.{any_site, has_site}
use Rattle.zq_model.specs.Sets.{by_site}

-- how many operations of one site u has beyond v, where it is one of these
abbrev pub beyond_at : List Bool → List ℕ → List ℕ → ℕ → ℕ
beyond_at sites u v o = if has_site sites o then slice_index u o - slice_index v o else 0

-- how many operations of these sites u has beyond v
abbrev pub beyond : List Bool → List ℕ → List ℕ → ℕ
beyond sites u v = sum (by_site (beyond_at sites u v))

-- whether u has fewer operations than v of some of these sites
abbrev pub is_short : List Bool → List ℕ → List ℕ → Bool
is_short sites u v = any_site (λ o. has_site sites o && nat_lt (slice_index u o) (slice_index v o))

-- the site has at least n operations
abbrev pub raised : List ℕ → ℕ → ℕ → List ℕ
raised v site n = slice_set v site (max (slice_index v site) n)
