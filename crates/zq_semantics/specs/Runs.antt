-- Runs of a world over a list of events.

use Rattle.std.specs.Prelude.{List, None, Option, Some, [], filter, if◌then◌else◌, ℕ, ◌+◌, ◌++◌, ◌∷◌, ◌≡◌, ◌≤◌}
use Rattle.zq_model.specs.Operation.{Operation, has}
use Rattle.zq_model.specs.Rule.{Rule}
use Rattle.zq_model.specs.Sets.{IsHeaps, SITES}
use Rattle.zq_resp.specs.Request.{IsRequest}
use Rattle.zq_semantics.specs.Events.{Do, Event, Merge, Run, Take, answer_to, is_possible, state_after}
use Rattle.zq_semantics.specs.State.{State}

-- nothing was made, and no site has anything
abbrev pub opening : State
opening = record { made = []; sets = λ _. []; stamps = λ _ _. 0; counts = λ _ _. 0 }

abbrev pub start : Run
start = record { now = opening; past = opening.sets ∷ []; answers = [] }

abbrev pub after_event : Rule → ℕ → Run → Event → Run
after_event rule K r e = record {
  now = state_after rule K r e;
  past = r.past ++ (state_after rule K r e).sets ∷ [];
  answers = r.answers ++ answer_to rule K r e ∷ [];
}

-- the run after these events, the first one first
abbrev pub run_on : Rule → ℕ → List Event → Run → Run
run_on rule K [] r = r
run_on rule K (e ∷ events) r = run_on rule K events (after_event rule K r e)

-- the run of these events from nothing
abbrev pub run : Rule → ℕ → List Event → Run
run rule K events = run_on rule K events start

-- the place of the first event, counted from i, that names what is not there then
abbrev pub missing_from : Rule → ℕ → ℕ → ℕ → List Event → Run → Option ℕ
missing_from rule K sites i [] r = None
missing_from rule K sites i (e ∷ events) r =
    if is_possible K sites r e then missing_from rule K sites (i + 1) events
    (after_event rule K r e) else Some i

abbrev pub first_missing : Rule → ℕ → ℕ → List Event → Option ℕ
first_missing rule K sites events = missing_from rule K sites 0 events start

-- the words are those of a request
abbrev pub IsEvent : Event → Type 0
IsEvent (Do site words w1 w2) = IsRequest words
IsEvent (Take site op) = Unit {0}
IsEvent (Merge site from heap moment) = Unit {0}

abbrev pub AreEvents : List Event → Type 0
AreEvents [] = Unit {0}
AreEvents (e ∷ events) = IsEvent e × AreEvents events

-- events that a world of so many sites, of K heaps each, can run
pub record IsPlayable (rule : Rule) (K sites : ℕ) (events : List Event) : Type 0 where
  pub heaps : IsHeaps K
  pub few : sites ≤ SITES
  pub each : AreEvents events
  pub there : first_missing rule K sites events ≡ None

-- the operations of which these vectors, one for each heap, have the dots
abbrev pub known_by : (ℕ → List ℕ) → List Operation → List Operation
known_by vectors made = filter (λ o. has (vectors o.heap) o.site o.n) made
