-- Laws of what peers are asked to relay.

use Rattle.std.specs.Prelude.{Bool, List, true, ℕ, ◌<◌, ◌≡◌, ◌≤◌, ◌↔◌, ◌⊎◌}
use Rattle.zq_follow.specs.Routes.{Reach, asked_of, distance, far_of}
use Rattle.zq_follow.specs.SiteSet.{has_site}
use Rattle.zq_model.specs.Sets.{IsIn, SITES}

-- a peer that has a link to the site o, and of those the next after it
pub record IsNearest (o : ℕ) (reaches : List Reach) (peer : ℕ) : Type 0 where
  pub reach : List Bool
  pub offers : IsIn (peer, reach) reaches
  pub linked : has_site reach o ≡ true
  pub least : (r : Reach) → IsIn r reaches → has_site r.1 o ≡ true →
      distance o peer ≤ distance o r.0

-- Of a site that has no link here the next of the peers that have a link to it is asked, and no
-- other.
abbrev pub NearestIsAsked : Type 0
NearestIsAsked = (own : ℕ) (linked : List Bool) (reaches : List Reach) (peer o : ℕ) →
    has_site (asked_of own linked reaches peer) o ≡ true → IsNearest o reaches peer

-- No peer is asked for this site itself, nor for one that has a link here.
pub record IsRemote (own : ℕ) (linked : List Bool) (o : ℕ) : Type 0 where
  pub other : o ≡ own → ⊥
  pub unlinked : has_site linked o ≡ true → ⊥

abbrev pub NoneIsAskedInVain : Type 0
NoneIsAskedInVain = (own : ℕ) (linked : List Bool) (reaches : List Reach) (peer o : ℕ) →
    has_site (asked_of own linked reaches peer) o ≡ true → IsRemote own linked o

-- Of each site one peer is asked at most.
abbrev pub OneIsAsked : Type 0
OneIsAsked = (own : ℕ) (linked : List Bool) (reaches : List Reach) (peer other o : ℕ) →
    has_site (asked_of own linked reaches peer) o ≡ true →
    has_site (asked_of own linked reaches other) o ≡ true → peer ≡ other

-- A site is far exactly where it has no link here, and no peer has a link to it.

-- the site has no link here, and no peer has a link to it
pub record IsFar (own : ℕ) (linked : List Bool) (reaches : List Reach) (o : ℕ) : Type 0 where
  pub site : o < SITES
  pub remote : IsRemote own linked o
  pub none : (r : Reach) → IsIn r reaches → has_site r.1 o ≡ true → ⊥

abbrev pub FarIsBeyondAll : Type 0
FarIsBeyondAll = (own : ℕ) (linked : List Bool) (reaches : List Reach) (o : ℕ) →
    has_site (far_of own linked reaches) o ≡ true ↔ IsFar own linked reaches o

-- Of a site that has no link here some peer is asked, or it is far.
abbrev pub NoneIsForgotten : Type 0
NoneIsForgotten = (own : ℕ) (linked : List Bool) (reaches : List Reach) (o : ℕ) → o < SITES →
    IsRemote own linked o → (has_site (far_of own linked reaches) o ≡ true)
    ⊎ ((r : Reach) × IsIn r reaches × (has_site (asked_of own linked reaches r.0) o ≡ true))
