-- What a site knows of one heap of a peer, and what it has sent there.

use Rattle.std.specs.Prelude.{Bool, List, None, Option, Some, false, if◌then◌else◌, is_some, max, min, nat_le, not, option_map, true, ℕ, ◌&&◌, ◌+◌, ◌-◌, ◌==◌, ◌^◌}
use Rattle.zq_dots.specs.declared.dot.Dot.{Dot}
use Rattle.zq_follow.specs.Counts.{beyond, is_short, raised}
use Rattle.zq_follow.specs.Sent.{is_lost, settled}
use Rattle.zq_follow.specs.SiteSet.{lacks, no_sites}
use Rattle.zq_follow.specs.declared.at.HeardAt.{HeardAt}
use Rattle.zq_follow.specs.declared.at.Probe.{Probe}
use Rattle.zq_follow.specs.declared.follow.Follow.{Follow}
use Rattle.zq_model.specs.Image.{join_vector}
use Rattle.zq_model.specs.Sets.{by_site}

-- nothing was heard of the peer
abbrev pub deaf : Follow
deaf = record {
  sent = None;
  place = 0;
  heard = by_site (λ _. 0);
  shut = true;
  «open» = false;
  turn = 0;
  echo = 0;
  probe = None;
  behind = false;
  window = 0;
  class = no_sites;
  told = by_site (λ _. 0);
  spare = 0;
}

-- ---- what an At says of what was sent

-- pushing begins anew: the peer has what it says
abbrev pub begun : List ℕ → ℕ → Follow → Follow
begun heard first f =
    record f { sent = Some heard; place = first; probe = None; class = no_sites }

-- the peer has what it says, beside what is on its way
abbrev pub joined : List ℕ → List ℕ → Follow → Follow
joined sent heard f = record f { sent = Some (join_vector sent heard) }

-- the peer has heard the probe, and so what was sent before it, or that was lost
abbrev pub answered : List ℕ → List ℕ → List ℕ → ℕ → Follow → Follow
answered sent probed heard first f = record f {
  sent = Some (settled sent probed heard);
  place = if is_lost sent probed heard then first else f.place;
  probe = None;
}

abbrev pub compared : Option Probe → List ℕ → HeardAt → ℕ → Follow → Follow
compared None sent at first f = joined sent at.vector f
compared (Some probe) sent at first f =
    if nat_le probe.turn at.echo then answered sent probe.sent at.vector first f
    else joined sent at.vector f

abbrev pub weighed : Option (List ℕ) → HeardAt → ℕ → Follow → Follow
weighed None at first f = begun at.vector first f
weighed (Some sent) at first f =
    if f.shut && at.open then begun at.vector first f else compared f.probe sent at first f

-- after an At, where the log begins at first
abbrev pub heard_at : HeardAt → ℕ → Follow → Follow
heard_at at first f = record (weighed f.sent at first f) {
  heard = join_vector f.heard at.vector;
  shut = not at.open;
  echo = max f.echo at.turn;
  behind = false;
  window = at.window;
  spare = 0;
}

-- after an operation of this dot came from the peer
abbrev pub heard_dot : Dot → Follow → Follow
heard_dot dot f = record f {
  sent = option_map (λ sent. raised sent dot.site dot.n) f.sent;
  heard = raised f.heard dot.site dot.n;
}

-- whether this site takes the peer's operations, and how it begins to, and ceases
abbrev pub is_open : Follow → Bool
is_open f = f.open

abbrev pub opened : Follow → Follow
opened f = record f { «open» = true }

abbrev pub closed : Follow → Follow
closed f = record f { «open» = false }

-- the peer is being given the whole heap
abbrev pub served : Follow → Follow
served f = record f { shut = true }

-- the peer was told that the log does not reach back to what it lacks
abbrev pub told_behind : Follow → Follow
told_behind f = record f { behind = true }

-- ---- what is pushed

-- before a push of the operations of these sites
abbrev pub prepared : List Bool → ℕ → Follow → Follow
prepared class first f = record f {
  place = if lacks f.class class then first else max f.place first;
  class = class;
}

-- whether something of the class that was not sent lies below this vector
abbrev pub is_below_of : Option (List ℕ) → List Bool → List ℕ → Bool
is_below_of None class base = false
is_below_of (Some sent) class base = is_short class sent base

abbrev pub is_below : List ℕ → Follow → Bool
is_below base f = is_below_of f.sent f.class base

abbrev pub may_push : Follow → Bool
may_push f = is_some f.sent && (not f.shut && not f.behind)

-- how many operations of the class are on their way, or wait at the peer
abbrev pub underway_of : Option (List ℕ) → List Bool → List ℕ → ℕ
underway_of None class heard = 0
underway_of (Some sent) class heard = beyond class sent heard

abbrev pub underway : Follow → ℕ
underway f = underway_of f.sent f.class f.heard

-- how many operations may be on their way: what the peer granted, and what it was widened by
abbrev pub bound : Follow → ℕ
bound f = min (f.window + f.spare) (2 ^ 64 - 1)

-- how many more may be sent
abbrev pub allowance : Follow → ℕ
allowance f = if is_some f.sent then bound f - underway f else 0

abbrev pub pushed : List ℕ → ℕ → Follow → Follow
pushed sent next f = record f { sent = Some sent; place = next }

abbrev pub widened : ℕ → Follow → Follow
widened by f =
    if allowance f == 0 then record f { spare = min (f.spare + by) (2 ^ 64 - 1) } else f
