use Rattle.std.proofs.Common.{ap, subst, sym, ◌∙◌}
use Rattle.std.specs.Prelude.{[], ◌<◌, ◌∷◌}
use Rattle.zq_spread.proofs.Companies.{same_pass}
use Rattle.zq_spread.proofs.Counted.{of_seen}
use Rattle.zq_spread.proofs.ManyHeaps.{seats_of}
use Rattle.zq_spread.proofs.Refused.{hold_busy, hold_worn}
use Rattle.zq_spread.proofs.site.Site.hold.Goals as goal
use Rattle.zq_spread.specs.Calls.{heaps_of}
use Rattle.zq_spread.specs.LockedHeaps.{Follows}
use Rattle.zq_spread.specs.Passes.{seen_at}
use Rattle.zq_spread.specs.Turns.{turns_at}
use Rattle.zq_spread.specs.Worn.{reached_at, served_at}
use Rattle.zq_ticketlock.specs.Seats.{reached, seen, served}
use Rattle.zq_ticketlock.specs.Steps.{FollowsSeen}

pub take_seat-seat-requires-clause-seats : goal.take_seat-seat-requires-clause-seats
take_seat-seat-requires-clause-seats c = seats_of c.args.self.now (c.from-heap.result ∷ []) c.args.pass c.requires.pass

pub returns-in-Ok-clause-holding : goal.returns-in-Ok-clause-holding
returns-in-Ok-clause-holding c =
    let within : c.from-heap.result < heaps_of c.args.self.now = subst (λ h. h < heaps_of c.args.self.now) (sym c.from-heap.ensures) c.requires.heap in
    record {
      heap = within;
      pass = c.take_seat-seat.ensures.pass c.requires.pass;
      lock = λ slot at. c.in-Ok.ensures.lock ∙ (c.take_seat-seat.ensures.seat slot at).0;
      of = λ slot at. of_seen slot c.in-Ok.held.value (seen c.take_seat-seat.result) c.take_seat-seat.ensures.some c.in-Ok.ensures.follows (c.take_seat-seat.ensures.seat slot at).1;
      home = c.in-Ok.ensures.holds;
      given = c.in-Ok.ensures.given;
    }

pub returns-in-Ok-clause-held : goal.returns-in-Ok-clause-held
returns-in-Ok-clause-held c =
    let stays = c.take_seat-seat.ensures.stays in
    let here = c.from-heap.ensures in
    record {
      heap = here;
      follows = subst (λ o. FollowsSeen Follows c.in-Ok.held.value o) (c.take_seat-seat.ensures.seen ∙ ap (seen_at c.args.pass) here) c.in-Ok.ensures.follows;
      others = λ k other. stays.others k (λ e. other (e ∙ here));
      steps = stays.steps;
      stamp = stays.stamp;
      turns = c.in-Ok.ensures.logged ∙ c.take_seat-seat.ensures.turns ∙ ap (turns_at c.args.pass) here;
      rest = λ k other. stays.turns k (λ e. other (e ∙ here));
    }

pub returns-in-Err-clause-same : goal.returns-in-Err-clause-same
returns-in-Err-clause-same c =
    same_pass c.from-heap.result c.args.pass c.take_seat-seat.new.pass c.put_seat.new.pass c.take_seat-seat.ensures.stays c.put_seat.ensures.stays
    (c.put_seat.ensures.seen ∙ c.in-Err.ensures.refused.1 ∙ c.take_seat-seat.ensures.seen) (c.put_seat.ensures.turns ∙ c.in-Err.ensures.refused_logged ∙ c.take_seat-seat.ensures.turns)

pub returns-in-Err-clause-worn : goal.returns-in-Err-clause-worn
returns-in-Err-clause-worn c =
    let new = c.put_seat.new.pass in
    hold_worn c.in-Err.fault c.from.result (served c.in-Err.seat) (served_at new c.args.heap) c.from.ensures (ap (served_at new) (sym c.from-heap.ensures) ∙ c.put_seat.ensures.served) c.in-Err.ensures.worn

pub returns-in-Err-clause-busy : goal.returns-in-Err-clause-busy
returns-in-Err-clause-busy c =
    let new = c.put_seat.new.pass in
    hold_busy c.in-Err.fault c.from.result (served c.in-Err.seat) (reached c.in-Err.seat) (served_at new c.args.heap) (reached_at new c.args.heap) c.from.ensures
    (ap (served_at new) (sym c.from-heap.ensures) ∙ c.put_seat.ensures.served) (ap (reached_at new) (sym c.from-heap.ensures) ∙ c.put_seat.ensures.reached) c.in-Err.ensures.busy

pub put_seat-requires-clause-number : goal.put_seat-requires-clause-number
put_seat-requires-clause-number c = c.take_seat-seat.ensures.outside.number ∙ c.requires.pass.seats

pub returns-in-Err-clause-back : goal.returns-in-Err-clause-back
returns-in-Err-clause-back c = c.put_seat.ensures.pass (c.take_seat-seat.ensures.pass c.requires.pass)
