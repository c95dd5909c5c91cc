-- Which sites link to a site.

use Rattle.std.specs.List.{list_any}
use Rattle.std.specs.Prelude.{Bool, List, false, filter, nat_lt, ℕ, ◌==◌, ◌||◌}
use Rattle.zq_model.specs.Sets.{SITES}
use Rattle.zq_peers.specs.Sites.{others_below}
use Rattle.zq_settings.specs.declared.accept.Accept.{Accept}
use Rattle.zq_settings.specs.declared.accept.Accept.TheVariants.{Any, Listed}
use Rattle.zq_settings.specs.declared.peer.Peer.{Peer}

-- Of two sites the one of the greater number dials: these dial the site of this number.
abbrev pub dialers : ℕ → List ℕ → List ℕ
dialers own sites = filter (λ site. nat_lt own site) sites

abbrev pub is_listed : List Peer → ℕ → Bool
is_listed peers site = list_any (λ peer. peer.site == site) peers

-- whether a site that is not among the peers is accepted
abbrev pub is_accepted : ℕ → Accept → ℕ → Bool
is_accepted own Any site = nat_lt own site
is_accepted own Listed site = false

-- whether a site may have a link to the site of this number
abbrev pub may_meet : ℕ → Accept → List Peer → ℕ → Bool
may_meet own accept peers site = is_listed peers site || is_accepted own accept site

-- those of these sites that may
abbrev pub partners_among : ℕ → Accept → List Peer → List ℕ → List ℕ
partners_among own accept peers sites = filter (may_meet own accept peers) sites

-- all that may, by rising numbers
abbrev pub partners : ℕ → Accept → List Peer → List ℕ
partners own accept peers = partners_among own accept peers (others_below own SITES)
