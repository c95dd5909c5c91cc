-- Who sends the operations of which site to whom.

use Rattle.std.specs.Prelude.{Bool, List, None, Option, Some, false, fold, if◌then◌else◌, is_none, map, nat_lt, not, slice_index, slice_index_or, true, ℕ, ◌%◌, ◌&&◌, ◌+◌, ◌-◌, ◌==◌, ◌||◌}
use Rattle.zq_follow.specs.SiteSet.{has_site}
use Rattle.zq_model.specs.Sets.{SITES, by_site}

-- ---- what is pushed to a peer

-- whether the last new operation of a site came from elsewhere than the peer and those to whom it
-- has links
abbrev pub is_apart : ℕ → List Bool → Option ℕ → Bool
is_apart peer reach None = true
is_apart peer reach (Some source) = not (source == peer) && not (has_site reach source)

-- whether a peer asked for the operations of the site o, or they are left to this site
abbrev pub is_relayed : ℕ → List Bool → List Bool → List Bool → ℕ → Option ℕ → Bool
is_relayed peer asked far reach o source =
    has_site asked o || (has_site far o && is_apart peer reach source)

-- the sites whose operations are pushed to a peer
abbrev pub class_of : ℕ → ℕ → List Bool → List Bool → List Bool → List (Option ℕ) → List Bool
class_of own peer asked far reach sources =
    by_site (λ o. not (o == peer)
    && ((o == own) || is_relayed peer asked far reach o (slice_index_or sources o None)))

-- ---- what peers are asked to relay

-- what a peer said: its number, and the sites to which it has links
abbrev pub Reach : Type 0
Reach = ℕ × List Bool

-- how many sites a peer comes after the site o, in a ring of all sites
abbrev pub distance : ℕ → ℕ → ℕ
distance o peer = (peer + SITES - o) % SITES

abbrev pub is_nearer : ℕ → ℕ → Option ℕ → Bool
is_nearer o peer None = true
is_nearer o peer (Some best) = nat_lt (distance o peer) (distance o best)

abbrev pub nearer : ℕ → Option ℕ → Reach → Option ℕ
nearer o best r = if has_site r.1 o && is_nearer o r.0 best then Some r.0 else best

-- the peer that comes next after the site o, of those that have a link to it
abbrev pub nearest : ℕ → List Reach → Option ℕ
nearest o reaches = fold (nearer o) None reaches

-- whether a site has no link here
abbrev pub is_remote : ℕ → List Bool → ℕ → Bool
is_remote own linked o = not (o == own) && not (has_site linked o)

abbrev pub is_chosen : ℕ → Option ℕ → Bool
is_chosen peer None = false
is_chosen peer (Some best) = best == peer

-- for each site the peer that is next to it
abbrev pub chosen : List Reach → List (Option ℕ)
chosen reaches = by_site (λ o. nearest o reaches)

-- where for each site one is chosen: the sites that this peer is asked to relay, and those of which
-- nobody can be asked
abbrev pub asked_by : ℕ → List Bool → List (Option ℕ) → ℕ → List Bool
asked_by own linked choices peer =
    by_site (λ o. is_chosen peer (slice_index_or choices o None) && is_remote own linked o)

abbrev pub far_by : ℕ → List Bool → List (Option ℕ) → List Bool
far_by own linked choices =
    by_site (λ o. is_none (slice_index_or choices o None) && is_remote own linked o)

-- the sites that this peer is asked to relay
abbrev pub asked_of : ℕ → List Bool → List Reach → ℕ → List Bool
asked_of own linked reaches peer = asked_by own linked (chosen reaches) peer

abbrev pub asks_of : ℕ → List Bool → List Reach → List Reach
asks_of own linked reaches = map (λ r. (r.0, asked_of own linked reaches r.0)) reaches

-- the sites to which no peer has a link
abbrev pub far_of : ℕ → List Bool → List Reach → List Bool
far_of own linked reaches = far_by own linked (chosen reaches)

-- whether a site is neither this one, nor the peer, nor one for which the peer is asked
abbrev pub is_other : ℕ → ℕ → List Bool → ℕ → Bool
is_other own peer asked o = not (o == own) && (not (o == peer) && not (has_site asked o))

-- the sites of which the peer had more operations, at its earlier At, than this site has by now:
-- but for this site, the peer, and those for which the peer is asked
abbrev pub overdue : ℕ → ℕ → List ℕ → List ℕ → List Bool → List Bool
overdue own peer earlier vector asked =
    by_site (λ o. is_other own peer asked o
    && nat_lt (slice_index vector o) (slice_index earlier o))
