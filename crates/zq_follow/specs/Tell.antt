-- What a site tells a peer of one heap.

use Rattle.std.specs.Prelude.{Bool, List, None, Option, Some, if◌then◌else◌, max, min, nat_le, nat_lt, true, ℕ, ◌+◌, ◌-◌, ◌/◌, ◌^◌}
use Rattle.zq_follow.specs.Counts.{beyond}
use Rattle.zq_follow.specs.declared.at.TheConstants.{PROBE_TURNS}
use Rattle.zq_follow.specs.declared.at.AtHead.{AtHead}
use Rattle.zq_follow.specs.declared.at.Probe.{Probe}
use Rattle.zq_follow.specs.declared.follow.Follow.{Follow}

-- whether no probe is out, or the one that is out is too old
abbrev pub is_due : ℕ → Option Probe → Bool
is_due turn None = true
is_due turn (Some probe) = nat_lt PROBE_TURNS (turn - probe.turn)

-- what was sent by now is what the peer is asked about
abbrev pub probed_by : Option (List ℕ) → Follow → Follow
probed_by None f = f
probed_by (Some sent) f =
    if is_due f.turn f.probe then record f { probe = Some (record { turn = f.turn; sent = sent }) }
    else f

abbrev pub probed : Follow → Follow
probed f = probed_by f.sent f

-- after the next At with this vector
abbrev pub noted : List ℕ → Follow → Follow
noted vector f = record f { turn = min (f.turn + 1) (2 ^ 64 - 1); told = vector }

abbrev pub told_at : List ℕ → Bool → Follow → Follow
told_at vector is_calm f = if is_calm then probed (noted vector f) else noted vector f

abbrev pub head_of : Follow → AtHead
head_of f = record { turn = f.turn; echo = f.echo; «open» = f.open }

-- whether the peer is owed an At: as many operations of these sites as a quarter of its grant, and
-- at least one, came since the last
abbrev pub owes_at : List ℕ → List Bool → ℕ → Follow → Bool
owes_at vector sites granted f = nat_le (max 1 (granted / 4)) (beyond sites vector f.told)
