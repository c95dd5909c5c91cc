-- Which run of a peer's number has its link, and whose operations are known.

use Rattle.std.specs.Prelude.{Bool, List, None, Option, Some, [], false, if◌then◌else◌, nat_le, true, ◌&&◌, ◌<◌, ◌∷◌, ◌≡◌, ◌≢◌, ◌≤◌, ◌⊎◌}
use Rattle.std.specs.Str.{bytes_eq}
use Rattle.zq_site.specs.declared.run_order.RunId.{RunId}
use Rattle.zq_wire.specs.declared.run.Run.{Run}

-- whether the other is of the name of the run, and no earlier start than that
abbrev pub goes_on : RunId → RunId → Bool
goes_on run other = bytes_eq run.name other.name && nat_le run.start other.start

-- whether the link of the run that came may take the place of the one of the run that is there
abbrev pub may_take : Option RunId → Option RunId → Bool → Bool
may_take there came false = true
may_take None came true = true
may_take (Some run) None true = false
may_take (Some run) (Some other) true = goes_on run other

-- what tells a run from others: its name and its start
abbrev pub run_id : Run → RunId
run_id run = record { name = run.name; start = run.start }

-- the same of a run that was told
abbrev pub id_of : Option Run → Option RunId
id_of None = None
id_of (Some run) = Some (run_id run)

-- What is known of the runs of a peer's number: the run of the latest link, the run whose
-- operations the site may have, and the run of the latest link where it is another one, until it is
-- judged.
pub record KnownRuns : Type 0 where
  pub latest : Option RunId
  pub known : Option RunId
  pub newcomer : Option Run

abbrev pub no_runs : KnownRuns
no_runs = record { latest = None; known = None; newcomer = None }

-- the run that is known once the other took its place: the other, where none is known, or where it
-- goes on from the one that is
abbrev pub kept_of : Option RunId → Option RunId → Option RunId
kept_of None other = other
kept_of (Some known) None = Some known
kept_of (Some known) (Some other) = if goes_on known other then Some other else Some known

-- a run that was told, where it does not go on from the one that is known
abbrev pub newcomer_to : Option RunId → Option Run → Option Run
newcomer_to None run = None
newcomer_to (Some known) None = None
newcomer_to (Some known) (Some run) = if goes_on known (run_id run) then None else Some run

-- a link of this run has taken its place
abbrev pub taken : Option Run → KnownRuns → KnownRuns
taken run runs = record {
  latest = id_of run;
  known = kept_of runs.known (id_of run);
  newcomer = newcomer_to runs.known run;
}

-- whether a link of this run takes the place of the latest, which is up or is not
abbrev pub is_taken : Option Run → Bool → KnownRuns → Bool
is_taken run is_up runs = may_take runs.latest (id_of run) is_up

-- a link of this run has come, and has taken its place or has been let go
abbrev pub came : Option Run → Bool → KnownRuns → KnownRuns
came run is_up runs = if is_taken run is_up runs then taken run runs else runs

-- the run that is known once the newcomer was judged
abbrev pub known_after : Option Run → Option RunId → Option RunId
known_after None known = known
known_after (Some run) known = Some (run_id run)

-- the newcomer was judged: it counts as known
abbrev pub judged : KnownRuns → KnownRuns
judged runs = record {
  latest = runs.latest;
  known = known_after runs.newcomer runs.known;
  newcomer = None;
}

-- a link that comes: its run, and whether the latest link is up
pub record Coming : Type 0 where
  pub run : Option Run
  pub is_up : Bool

-- what is known once links have come, one after the other
abbrev pub all_came : List Coming → KnownRuns → KnownRuns
all_came [] runs = runs
all_came (coming ∷ later) runs = all_came later (came coming.run coming.is_up runs)

-- what is known once links have come while the latest link was up
abbrev pub all_came_up : List (Option Run) → KnownRuns → KnownRuns
all_came_up [] runs = runs
all_came_up (run ∷ later) runs = all_came_up later (came run true runs)

-- the latest run is of the name of this one, and no earlier start of it
abbrev pub IsNoEarlier : RunId → Option RunId → Type 0
IsNoEarlier run None = ⊥
IsNoEarlier run (Some latest) = (latest.name ≡ run.name) × (run.start ≤ latest.start)

-- While a link is up that told its run, the latest keeps that name, and its start never falls,
-- whichever links come.
abbrev pub RunKeepsItsLink : Type 0
RunKeepsItsLink = (comings : List (Option Run)) (runs : KnownRuns) (run : RunId) →
    runs.latest ≡ Some run → IsNoEarlier run (all_came_up comings runs).latest

-- Whichever links come, the run that is known keeps its name, and its start never falls: another
-- name, or an earlier start, counts as known only once it was judged.
abbrev pub KnownStaysKnown : Type 0
KnownStaysKnown = (comings : List Coming) (runs : KnownRuns) (known : RunId) →
    runs.known ≡ Some known → IsNoEarlier known (all_came comings runs).known

-- A run that took its place, and has another name or an earlier start than the one that is known,
-- waits to be judged.
abbrev pub NewcomerIsJudged : Type 0
NewcomerIsJudged = (run : Run) (is_up : Bool) (runs : KnownRuns) (known : RunId) →
    runs.known ≡ Some known → (known.name ≢ run.name) ⊎ (run.start < known.start) →
    is_taken (Some run) is_up runs ≡ true → (came (Some run) is_up runs).newcomer ≡ Some run

-- A later start of the run that is known, which took its place, is what is known then, and does not
-- wait.
abbrev pub LaterStartIsKnown : Type 0
LaterStartIsKnown = (run : Run) (is_up : Bool) (runs : KnownRuns) (known : RunId) →
    runs.known ≡ Some known → known.name ≡ run.name → known.start ≤ run.start →
    is_taken (Some run) is_up runs ≡ true →
    ((came (Some run) is_up runs).known ≡ Some (run_id run)) ×
    ((came (Some run) is_up runs).newcomer ≡ None)
