-- Tickets of those who wait for the disk.

use Rattle.std.specs.Prelude.{Bool, false, max, min, nat_le, nat_lt, true, ℕ, ◌+◌, ◌-◌, ◌^◌}
use Rattle.zq_serve.specs.declared.commits.Rounds.{Rounds}
use Rattle.zq_serve.specs.declared.commits.Writes.{Writes}
use Rattle.zq_serve.specs.declared.commits.Writes.TheVariants.{Failed, Goes, Over}

-- no ticket was given
abbrev pub no_rounds : Rounds
no_rounds = record { asked = 0; done = 0; own = 0; writes = Goes }

-- the ticket behind the last one, within 64 bits
abbrev pub next_ticket : Rounds → ℕ
next_ticket rounds = min (rounds.asked + 1) (2 ^ 64 - 1)

-- it was given
abbrev pub asked : Rounds → Rounds
asked rounds = record rounds { asked = next_ticket rounds }

-- a round behind this ticket was written
abbrev pub ended : ℕ → Rounds → Rounds
ended ticket rounds =
    record rounds { done = max rounds.done ticket; own = max rounds.own ticket }

-- all that the site itself made before this ticket was written
abbrev pub ended_own : ℕ → Rounds → Rounds
ended_own ticket rounds = record rounds { own = max rounds.own ticket }

-- no round is written any more, since the site ends; where the disk failed nothing changes
abbrev pub over_after : Writes → Writes
over_after Goes = Over
over_after Over = Over
over_after Failed = Failed

abbrev pub closed : Rounds → Rounds
closed rounds = record rounds { writes = over_after rounds.writes }

-- the disk failed
abbrev pub failed : Rounds → Rounds
failed rounds = record rounds { writes = Failed }

-- how many tickets were given behind which no whole round was written
abbrev pub waiting : Rounds → ℕ
waiting rounds = rounds.asked - rounds.done

-- fewer than these, where rounds are written
abbrev pub lacks_while : Writes → ℕ → ℕ → Bool
lacks_while Goes crowd waits = nat_lt waits crowd
lacks_while Over crowd waits = false
lacks_while Failed crowd waits = false

abbrev pub lacks : ℕ → Rounds → Bool
lacks crowd rounds = lacks_while rounds.writes crowd (waiting rounds)

-- who has this ticket waits while rounds are written and none behind it was, and for ever where the
-- disk failed
abbrev pub holds_while : Writes → ℕ → ℕ → Bool
holds_while Goes ticket done = nat_lt done ticket
holds_while Over ticket done = false
holds_while Failed ticket done = true

abbrev pub holds : ℕ → Rounds → Bool
holds ticket rounds = holds_while rounds.writes ticket rounds.done

-- the same where what the site itself made is waited for
abbrev pub holds_own : ℕ → Rounds → Bool
holds_own ticket rounds = holds_while rounds.writes ticket rounds.own

-- whether a round behind this ticket was written
abbrev pub is_done : ℕ → Rounds → Bool
is_done ticket rounds = nat_le ticket rounds.done

-- whether all that the site itself made before this ticket was written
abbrev pub is_own_done : ℕ → Rounds → Bool
is_own_done ticket rounds = nat_le ticket rounds.own
