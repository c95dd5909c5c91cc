-- Whether a site that begins has heard its peers.

use Rattle.std.specs.List.{list_all}
use Rattle.std.specs.Prelude.{Bool, List, not, ◌&&◌}
use Rattle.zq_follow.specs.SiteSet.{any_site, has_site, lacks}
use Rattle.zq_model.specs.Sets.{by_site}

-- all of these peers were heard of each heap
abbrev pub has_heard_all : List Bool → List (List Bool) → Bool
has_heard_all peers heard = list_all (λ of_heap. not (lacks of_heap peers)) heard

-- one peer was heard of each heap
abbrev pub has_heard_one : List (List Bool) → Bool
has_heard_one heard = any_site (λ o. list_all (λ of_heap. has_site of_heap o) heard)

-- those of these peers that were not heard of each heap
abbrev pub unheard_of : List Bool → List (List Bool) → List Bool
unheard_of peers heard =
    by_site (λ o. has_site peers o && not (list_all (λ of_heap. has_site of_heap o) heard))
