use Rattle.std.proofs.Common.{subst, sym, ◌∙◌}
use Rattle.zq_spread.proofs.LeftAsGiven.{turn_of}
use Rattle.zq_spread.proofs.site.Site.release.Goals as goal
use Rattle.zq_spread.specs.Turns.{HasTurn}
use Rattle.zq_ticketlock.specs.Seats.{given, held_logged, logged}

pub returns-clause-back : goal.returns-clause-back
returns-clause-back c =
    let held = c.args.holding.held in
    let value = held.value in
    record {
      seen = c.put_seat.ensures.seen ∙ c.unlock-seat.ensures.seen;
      others = c.put_seat.ensures.stays.others;
      steps = c.put_seat.ensures.stays.steps;
      stamp = c.put_seat.ensures.stays.stamp;
      turn = subst (λ l. HasTurn value value l (held_logged held)) (sym c.put_seat.ensures.turns)
          (turn_of (given held) value value held.ticket (logged c.unlock-seat.result) (held_logged held) c.requires.holding.given c.unlock-seat.ensures.logged);
      rest = c.put_seat.ensures.stays.turns;
    }

pub put_seat-requires-clause-number : goal.put_seat-requires-clause-number
put_seat-requires-clause-number c = c.requires.holding.pass.seats

pub returns-clause-pass : goal.returns-clause-pass
returns-clause-pass c = c.put_seat.ensures.pass c.requires.holding.pass
