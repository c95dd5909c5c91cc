-- What becomes of those who wait for the disk, step by step.

use Rattle.std.proofs.Common.{List, [], ap, arith, false, max, refl, subst, sym, true, ℕ, ◌<◌, ◌∷◌, ◌≡◌, ◌≤◌}
use Rattle.std.proofs.lemmas.Bool.{le-leb, lt-leb}
use Rattle.std.proofs.lemmas.Bool.Decides.{nat_tests}
use Rattle.zq_serve.specs.CommitLaws.{AreEarly, Asks, Closes, DoneStays, Ends, EndsOwn, Fails, FailuresHold, FailuresHoldOwn, HasNext, IsEarly, NoneIsDoneEarly, OwnLetsGo, OwnTicketsAreHeld, StayOpen, StaysOpen, Step, TicketsAreHeld, after, stepped}
use Rattle.zq_serve.specs.Commits.{asked, ended, failed, holds_while, next_ticket}
use Rattle.zq_serve.specs.declared.commits.Rounds.{Rounds}
use Rattle.zq_serve.specs.declared.commits.Writes.{Writes}
use Rattle.zq_serve.specs.declared.commits.Writes.TheVariants.{Failed, Goes, Over}

-- ---- no round behind the ticket is written

early_step : (ticket last : ℕ) (step : Step) (rounds : Rounds) → last < ticket → IsEarly last step → rounds.done < ticket → (stepped step rounds).done < ticket
early_step ticket last Asks rounds above early was = was
early_step ticket last (Ends began) rounds above early was = omega arith
early_step ticket last (EndsOwn began) rounds above early was = was
early_step ticket last Closes rounds above early was = was
early_step ticket last Fails rounds above early was = was

own_step : (ticket last : ℕ) (step : Step) (rounds : Rounds) → last < ticket → IsEarly last step → rounds.own < ticket → (stepped step rounds).own < ticket
own_step ticket last Asks rounds above early was = was
own_step ticket last (Ends began) rounds above early was = omega arith
own_step ticket last (EndsOwn began) rounds above early was = omega arith
own_step ticket last Closes rounds above early was = was
own_step ticket last Fails rounds above early was = was

own_after : (ticket last : ℕ) (steps : List Step) (rounds : Rounds) → last < ticket → AreEarly last steps → rounds.own < ticket → (after steps rounds).own < ticket
own_after ticket last [] rounds above early was = was
own_after ticket last (step ∷ steps) rounds above early was =
    own_after ticket last steps (stepped step rounds) above early.1 (own_step ticket last step rounds above early.0 was)

early_after : (ticket last : ℕ) (steps : List Step) (rounds : Rounds) → last < ticket → AreEarly last steps → rounds.done < ticket → (after steps rounds).done < ticket
early_after ticket last [] rounds above early was = was
early_after ticket last (step ∷ steps) rounds above early was =
    early_after ticket last steps (stepped step rounds) above early.1 (early_step ticket last step rounds above early.0 was)

-- the next ticket is behind the last one
next_is_above : (rounds : Rounds) → HasNext rounds → rounds.asked < next_ticket rounds
next_is_above rounds next = omega (arith, next.next)

not_done : (rounds : Rounds) (steps : List Step) → HasNext rounds → AreEarly rounds.asked steps → (after steps (asked rounds)).done < next_ticket rounds
not_done rounds steps next early =
    early_after (next_ticket rounds) rounds.asked steps (asked rounds) (next_is_above rounds next) early (omega (arith, next.given, next_is_above rounds next))

own_not_done : (rounds : Rounds) (steps : List Step) → HasNext rounds → AreEarly rounds.asked steps → (after steps (asked rounds)).own < next_ticket rounds
own_not_done rounds steps next early =
    own_after (next_ticket rounds) rounds.asked steps (asked rounds) (next_is_above rounds next) early (omega (arith, next.own, next_is_above rounds next))

pub none_is_done_early : NoneIsDoneEarly
none_is_done_early rounds steps next early = lt-leb (next_ticket rounds) (after steps (asked rounds)).done (not_done rounds steps next early)

-- ---- the site does not end

abbrev IsOpen : Writes → Type 0
IsOpen Goes = Unit {0}
IsOpen Over = ⊥
IsOpen Failed = Unit {0}

open_step : (step : Step) (rounds : Rounds) → StaysOpen step → IsOpen rounds.writes → IsOpen (stepped step rounds).writes
open_step Asks rounds stays was = was
open_step (Ends began) rounds stays was = was
open_step (EndsOwn began) rounds stays was = was
open_step Closes rounds stays was = absurd stays
open_step Fails rounds stays was = tt

open_after : (steps : List Step) (rounds : Rounds) → StayOpen steps → IsOpen rounds.writes → IsOpen (after steps rounds).writes
open_after [] rounds stay was = was
open_after (step ∷ steps) rounds stay was = open_after steps (stepped step rounds) stay.1 (open_step step rounds stay.0 was)

held_while : (writes : Writes) (ticket done : ℕ) → IsOpen writes → done < ticket → holds_while writes ticket done ≡ true
held_while Goes ticket done still early = grind (arith, nat_tests)
held_while Over ticket done still early = absurd still
held_while Failed ticket done still early = refl

pub tickets_are_held : TicketsAreHeld
tickets_are_held rounds steps next goes early stay =
    held_while (after steps (asked rounds)).writes (next_ticket rounds) (after steps (asked rounds)).done (open_after steps (asked rounds) stay (subst IsOpen (sym goes) tt)) (not_done rounds steps next early)

pub own_tickets_are_held : OwnTicketsAreHeld
own_tickets_are_held rounds steps next goes early stay =
    held_while (after steps (asked rounds)).writes (next_ticket rounds) (after steps (asked rounds)).own (open_after steps (asked rounds) stay (subst IsOpen (sym goes) tt)) (own_not_done rounds steps next early)

let_go : (writes : Writes) (ticket done : ℕ) → writes ≡ Goes → ticket ≤ done → holds_while writes ticket done ≡ false
let_go Goes ticket done goes behind = grind (arith, nat_tests)
let_go Over ticket done goes behind = refl
let_go Failed ticket done goes behind = search

pub own_lets_go : OwnLetsGo
own_lets_go rounds ticket began goes behind =
    (let_go rounds.writes ticket (max rounds.own began) goes (omega (arith, behind)), (let_go rounds.writes ticket (max rounds.own began) goes (omega (arith, behind)), refl))

-- ---- what was written stays so

done_step : (ticket : ℕ) (step : Step) (rounds : Rounds) → ticket ≤ rounds.done → ticket ≤ (stepped step rounds).done
done_step ticket Asks rounds was = was
done_step ticket (Ends began) rounds was = omega arith
done_step ticket (EndsOwn began) rounds was = was
done_step ticket Closes rounds was = was
done_step ticket Fails rounds was = was

done_after : (ticket : ℕ) (steps : List Step) (rounds : Rounds) → ticket ≤ rounds.done → ticket ≤ (after steps rounds).done
done_after ticket [] rounds was = was
done_after ticket (step ∷ steps) rounds was = done_after ticket steps (stepped step rounds) (done_step ticket step rounds was)

pub done_stays : DoneStays
done_stays rounds ticket began steps behind =
    le-leb ticket (after steps (ended began rounds)).done (done_after ticket steps (ended began rounds) (omega arith))

-- ---- the disk failed

failed_step : (step : Step) (rounds : Rounds) → rounds.writes ≡ Failed → (stepped step rounds).writes ≡ Failed
failed_step Asks rounds was = was
failed_step (Ends began) rounds was = was
failed_step (EndsOwn began) rounds was = was
failed_step Closes rounds was = rw was refl
failed_step Fails rounds was = refl

failed_after : (steps : List Step) (rounds : Rounds) → rounds.writes ≡ Failed → (after steps rounds).writes ≡ Failed
failed_after [] rounds was = was
failed_after (step ∷ steps) rounds was = failed_after steps (stepped step rounds) (failed_step step rounds was)

pub failures_hold : FailuresHold
failures_hold rounds ticket steps =
    ap (λ w. holds_while w ticket (after steps (failed rounds)).done) (failed_after steps (failed rounds) refl)

pub failures_hold_own : FailuresHoldOwn
failures_hold_own rounds ticket steps =
    ap (λ w. holds_while w ticket (after steps (failed rounds)).own) (failed_after steps (failed rounds) refl)
