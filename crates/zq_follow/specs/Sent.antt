-- What was sent, once the peer has heard a probe: of a site of which the peer has less than the
-- probe said, something was lost.

use Rattle.std.specs.Prelude.{Bool, List, if◌then◌else◌, max, min, nat_lt, slice_index, ℕ, ◌&&◌}
use Rattle.zq_follow.specs.SiteSet.{any_site}
use Rattle.zq_model.specs.Sets.{by_site}

-- what counts as sent of one site: no more than the peer has where something was lost, and no less
-- where nothing was
abbrev pub settled_at : ℕ → ℕ → ℕ → ℕ
settled_at sent probed heard = if nat_lt heard probed then min sent heard else max sent heard

abbrev pub settled : List ℕ → List ℕ → List ℕ → List ℕ
settled sent probed heard =
    by_site (λ o. settled_at (slice_index sent o) (slice_index probed o) (slice_index heard o))

-- whether something that counts as sent of one site was lost, or of any
abbrev pub is_lost_at : ℕ → ℕ → ℕ → Bool
is_lost_at sent probed heard = nat_lt heard probed && nat_lt heard sent

abbrev pub is_lost : List ℕ → List ℕ → List ℕ → Bool
is_lost sent probed heard =
    any_site (λ o. is_lost_at (slice_index sent o) (slice_index probed o) (slice_index heard o))
