-- Sets of sites: for each site whether it is in the set.

use Rattle.std.specs.Int.{bit_at}
use Rattle.std.specs.List.{list_any, range_with_len}
use Rattle.std.specs.Prelude.{Bool, List, false, if◌then◌else◌, not, slice_index_or, slice_set, true, ℕ, ◌&&◌, ◌==◌, ◌||◌}
use Rattle.zq_model.specs.Sets.{SITES, by_site}

-- whether the site is in the set
abbrev pub has_site : List Bool → ℕ → Bool
has_site sites o = slice_index_or sites o false

-- whether some site passes the test
abbrev pub any_site : (ℕ → Bool) → Bool
any_site test = list_any test (range_with_len 0 SITES)

abbrev pub no_sites : List Bool
no_sites = by_site (λ _. false)

abbrev pub with_site : ℕ → List Bool → List Bool
with_site o sites = slice_set sites o true

abbrev pub without_site : ℕ → List Bool → List Bool
without_site o sites = slice_set sites o false

abbrev pub union : List Bool → List Bool → List Bool
union sites others = by_site (λ o. has_site sites o || has_site others o)

-- whether the second set has a site that the first lacks
abbrev pub lacks : List Bool → List Bool → Bool
lacks sites others = any_site (λ o. has_site others o && not (has_site sites o))

-- a bit for a site that is in the set
abbrev pub bit_of : Bool → ℕ
bit_of there = if there then 1 else 0

-- the sites whose bits are set
abbrev pub sites_of_bits : ℕ → List Bool
sites_of_bits bits = by_site (λ o. bit_at bits o == 1)
