-- What is promised of tickets.

use Rattle.std.specs.Prelude.{List, [], false, true, ℕ, ◌+◌, ◌<◌, ◌^◌, ◌∷◌, ◌≡◌, ◌≤◌}
use Rattle.zq_serve.specs.Commits.{asked, closed, ended, ended_own, failed, holds, holds_own, is_done, next_ticket}
use Rattle.zq_serve.specs.declared.commits.Rounds.{Rounds}
use Rattle.zq_serve.specs.declared.commits.Writes.TheVariants.{Goes}

-- A ticket is given; a round that began behind this one was written; all was that the site itself
-- made before this one; the site ends; the disk fails.
pub data Step : Type 0 where
  Asks : Step
  Ends : (began : ℕ) → Step
  EndsOwn : (began : ℕ) → Step
  Closes : Step
  Fails : Step

abbrev pub stepped : Step → Rounds → Rounds
stepped Asks rounds = asked rounds
stepped (Ends began) rounds = ended began rounds
stepped (EndsOwn began) rounds = ended_own began rounds
stepped Closes rounds = closed rounds
stepped Fails rounds = failed rounds

-- one step after the other
abbrev pub after : List Step → Rounds → Rounds
after [] rounds = rounds
after (step ∷ steps) rounds = after steps (stepped step rounds)

-- a round that ends began before a ticket behind this one was given
abbrev pub IsEarly : ℕ → Step → Type 0
IsEarly last Asks = Unit {0}
IsEarly last (Ends began) = began ≤ last
IsEarly last (EndsOwn began) = began ≤ last
IsEarly last Closes = Unit {0}
IsEarly last Fails = Unit {0}

abbrev pub AreEarly : ℕ → List Step → Type 0
AreEarly last [] = Unit {0}
AreEarly last (step ∷ steps) = IsEarly last step × AreEarly last steps

-- the site does not end
abbrev pub StaysOpen : Step → Type 0
StaysOpen Asks = Unit {0}
StaysOpen (Ends began) = Unit {0}
StaysOpen (EndsOwn began) = Unit {0}
StaysOpen Closes = ⊥
StaysOpen Fails = Unit {0}

abbrev pub StayOpen : List Step → Type 0
StayOpen [] = Unit {0}
StayOpen (step ∷ steps) = StaysOpen step × StayOpen steps

-- no round ended behind a ticket that was not given, and there is a further ticket
pub record HasNext (rounds : Rounds) : Type 0 where
  pub given : rounds.done ≤ rounds.asked
  pub own : rounds.own ≤ rounds.asked
  pub next : rounds.asked + 1 < 2 ^ 64

-- Who takes a ticket waits, whatever happens, until a round was written that began afterwards or the
-- site ends.
abbrev pub TicketsAreHeld : Type 0
TicketsAreHeld = (rounds : Rounds) (steps : List Step) → HasNext rounds → rounds.writes ≡ Goes →
    AreEarly rounds.asked steps → StayOpen steps →
    holds (next_ticket rounds) (after steps (asked rounds)) ≡ true

-- So does who waits for what the site itself made alone.
abbrev pub OwnTicketsAreHeld : Type 0
OwnTicketsAreHeld = (rounds : Rounds) (steps : List Step) → HasNext rounds → rounds.writes ≡ Goes →
    AreEarly rounds.asked steps → StayOpen steps →
    holds_own (next_ticket rounds) (after steps (asked rounds)) ≡ true

-- No round that began before the ticket was given is taken for one behind it, also once the site
-- ends.
abbrev pub NoneIsDoneEarly : Type 0
NoneIsDoneEarly = (rounds : Rounds) (steps : List Step) → HasNext rounds →
    AreEarly rounds.asked steps →
    is_done (next_ticket rounds) (after steps (asked rounds)) ≡ false

-- A round that began behind a ticket lets it go, and what was written stays so.
abbrev pub RoundsLetGo : Type 0
RoundsLetGo = (rounds : Rounds) (ticket began : ℕ) → rounds.writes ≡ Goes → ticket ≤ began →
    holds ticket (ended began rounds) ≡ false

-- It lets those go too who wait for what the site itself made; and where that alone was written it
-- lets them go, and nobody else.
abbrev pub OwnLetsGo : Type 0
OwnLetsGo = (rounds : Rounds) (ticket began : ℕ) → rounds.writes ≡ Goes → ticket ≤ began →
    (holds_own ticket (ended began rounds) ≡ false)
    × ((holds_own ticket (ended_own began rounds) ≡ false)
    × (holds ticket (ended_own began rounds) ≡ holds ticket rounds))

abbrev pub DoneStays : Type 0
DoneStays = (rounds : Rounds) (ticket began : ℕ) (steps : List Step) → ticket ≤ began →
    is_done ticket (after steps (ended began rounds)) ≡ true

-- Once the disk failed nobody goes on, whatever happens.
abbrev pub FailuresHold : Type 0
FailuresHold = (rounds : Rounds) (ticket : ℕ) (steps : List Step) →
    holds ticket (after steps (failed rounds)) ≡ true

abbrev pub FailuresHoldOwn : Type 0
FailuresHoldOwn = (rounds : Rounds) (ticket : ℕ) (steps : List Step) →
    holds_own ticket (after steps (failed rounds)) ≡ true

-- As the site ends everybody goes on, and is told of no more than what was written.
abbrev pub EndsLetGo : Type 0
EndsLetGo = (rounds : Rounds) (ticket : ℕ) → rounds.writes ≡ Goes →
    (holds ticket (closed rounds) ≡ false)
    × (is_done ticket (closed rounds) ≡ is_done ticket rounds)
