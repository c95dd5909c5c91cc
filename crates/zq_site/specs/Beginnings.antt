-- How far a site is that begins, and what it does next.

use Rattle.std.specs.Prelude.{Bool, false, if◌then◌else◌, min, nat_le, true, ℕ, ◌&&◌, ◌+◌, ◌-◌, ◌^◌}
use Rattle.zq_site.specs.declared.progress.Deed.{Deed}
use Rattle.zq_site.specs.declared.progress.Deed.TheVariants.{GoesToWork, HasCaughtUp, Nothing, TakesWrites}
use Rattle.zq_site.specs.declared.progress.Progress.{Progress}
use Rattle.zq_site.specs.declared.progress.Sight.{Sight}
use Rattle.zq_site.specs.declared.progress.Stage.{Stage}
use Rattle.zq_site.specs.declared.progress.Stage.TheVariants.{Follows, Hears, Looks, Works}

-- whether it has to be seen if the site lacks something
abbrev pub is_asked : Stage → Bool → Bool
is_asked Hears beats = false
is_asked Looks beats = true
is_asked Follows beats = beats
is_asked Works beats = false

-- It hears what its peers have, looks whether it lacks something of that, follows until it does
-- not, as is seen each second, and works.
abbrev pub next_stage : Stage → Sight → Stage
next_stage Hears sight = if sight.heard then Looks else Hears
next_stage Looks sight = if sight.behind then Follows else Works
next_stage Follows sight =
    if sight.beats then (if sight.behind then Follows else Works) else Follows
next_stage Works sight = Works

-- a second more, within 64 bits
abbrev pub one_more : ℕ → ℕ
one_more seconds = min (seconds + 1) (2 ^ 64 - 1)

-- for how many seconds a site has waited that sees this and has not heard its peers
abbrev pub waited_on : Sight → ℕ → ℕ
waited_on sight seconds =
    if sight.heard then seconds else if sight.beats then one_more seconds else seconds

abbrev pub waited_at : Stage → Sight → ℕ → ℕ
waited_at Hears sight seconds = waited_on sight seconds
waited_at Looks sight seconds = seconds
waited_at Follows sight seconds = seconds
waited_at Works sight seconds = seconds

abbrev pub waited : Progress → Sight → ℕ
waited progress sight = waited_at progress.stage sight progress.seconds

abbrev pub next_progress : Progress → Sight → Progress
next_progress progress sight = record {
  stage = next_stage progress.stage sight;
  seconds = waited progress sight;
}

-- what a site does that waits for its peers: it takes writes without them once it has waited for
-- so many seconds, where it takes none yet
abbrev pub deed_waiting : Sight → ℕ → ℕ → Deed
deed_waiting sight seconds most =
    if sight.beats && (sight.waits && nat_le most seconds) then TakesWrites else Nothing

-- what one does that is to be seen to lack nothing
abbrev pub deed_looking : Sight → Deed
deed_looking sight = if sight.behind then Nothing else HasCaughtUp

abbrev pub deed_following : Sight → Deed
deed_following sight = if sight.beats then deed_looking sight else Nothing

abbrev pub deed_at : Stage → Sight → ℕ → ℕ → Deed
deed_at Hears sight seconds most =
    if sight.heard then GoesToWork else deed_waiting sight seconds most
deed_at Looks sight seconds most = deed_looking sight
deed_at Follows sight seconds most = deed_following sight
deed_at Works sight seconds most = Nothing

-- what it does that was so far and sees this, and waits for so many seconds at most
abbrev pub deed_next : Progress → Sight → ℕ → Deed
deed_next progress sight most = deed_at progress.stage sight (waited progress sight) most
