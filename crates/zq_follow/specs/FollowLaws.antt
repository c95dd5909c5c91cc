-- Laws of what is pushed to a peer.

use Rattle.std.specs.Prelude.{List, None, Option, Some, max, slice_index, ℕ, ◌<◌, ◌≡◌, ◌≤◌}
use Rattle.zq_follow.specs.Counts.{beyond}
use Rattle.zq_follow.specs.Follow.{allowance, bound, heard_at, pushed, underway}
use Rattle.zq_follow.specs.declared.at.HeardAt.{HeardAt}
use Rattle.zq_follow.specs.declared.at.Probe.{Probe}
use Rattle.zq_follow.specs.declared.follow.Follow.{Follow}
use Rattle.zq_model.specs.Sets.{SITES}

-- After a push of no more new operations than were allowed, no more are on their way than the
-- window has room for, or than were on their way before where that was more.
abbrev pub WindowIsKept : Type 0
WindowIsKept = (f : Follow) (sent after : List ℕ) (next : ℕ) → f.sent ≡ Some sent →
    beyond f.class after sent ≤ allowance f →
    underway (pushed after next f) ≤ max (bound f) (underway f)

-- What counts as sent of a site, and 0 where nothing does.
abbrev pub sent_at : Option (List ℕ) → ℕ → ℕ
sent_at None o = 0
sent_at (Some sent) o = slice_index sent o

-- Where the peer has heard a probe, and of a site has less than was sent before it, no more of that
-- site counts as sent than the peer has; and where more did, the log is read from its beginning.
pub record IsSentAgain (f g : Follow) (at : HeardAt) (first o : ℕ) : Type 0 where
  pub lowered : sent_at g.sent o ≤ slice_index at.vector o
  pub again : slice_index at.vector o < sent_at f.sent o → g.place ≡ first

abbrev pub LostIsSentAgain : Type 0
LostIsSentAgain = (f : Follow) (at : HeardAt) (first o : ℕ) (probe : Probe) → o < SITES →
    f.probe ≡ Some probe → probe.turn ≤ at.echo →
    slice_index at.vector o < slice_index probe.sent o →
    IsSentAgain f (heard_at at first f) at first o

-- No more counts as sent after an At than counted before it, or than the peer says that it has.
abbrev pub NothingIsClaimed : Type 0
NothingIsClaimed = (f : Follow) (at : HeardAt) (first o : ℕ) →
    sent_at (heard_at at first f).sent o ≤ max (sent_at f.sent o) (slice_index at.vector o)
