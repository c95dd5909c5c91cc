use Rattle.std.proofs.Common.{ap, subst, sym, ◌≤◌, ◌∙◌}
use Rattle.std.proofs.lemmas.Option.{same_Some, slice_get_read}
use Rattle.std.specs.Prelude.{IfSome, Some, length, refl, slice_get, ◌≡◌}
use Rattle.zq_spread.proofs.Counted.{of_seen}
use Rattle.zq_spread.proofs.ManyHeaps.{back_one, changed_back}
use Rattle.zq_spread.proofs.site.Site.lock_in.Goals as goal
use Rattle.zq_spread.specs.LockedHeaps.{Follows}
use Rattle.zq_spread.specs.HeapSlots.{IsOf}
use Rattle.zq_spread.specs.declared.heap_slot.HeapSlot.{HeapSlot}
use Rattle.zq_ticketlock.specs.Limits.{last_ticket}
use Rattle.zq_ticketlock.specs.Seats.{id_of, seen}
use Rattle.zq_ticketlock.specs.Steps.{FollowsSeen}

pub lock-requires : goal.lock-requires
lock-requires g c =
    let at : slice_get c.args.self.now.slots.items c.args.heap ≡ Some c.index.result.now =
    slice_get_read c.args.self.now.slots.items (length c.args.self.now.slots.items) c.args.heap c.index.result.now refl c.requires.heap c.index.ensures in
    record { own = (c.take_seat-seat.ensures.seat c.index.result.now at).0 }

pub returns-in-Ok-clause-held : goal.returns-in-Ok-clause-held
returns-in-Ok-clause-held g c =
    let at : slice_get c.args.self.now.slots.items c.args.heap ≡ Some c.index.result.now =
    slice_get_read c.args.self.now.slots.items (length c.args.self.now.slots.items) c.args.heap c.index.result.now refl c.requires.heap c.index.ensures in
    let fits = c.take_seat-seat.ensures.seat c.index.result.now at in
    record {
      slot = c.index.result.now;
      at = at;
      lock = c.in-Ok.ensures.lock ∙ fits.0;
      was_given = c.in-Ok.ensures.given;
      home = c.in-Ok.ensures.holds;
      of = of_seen c.index.result.now c.in-Ok.held.value (seen c.take_seat-seat.result) c.take_seat-seat.ensures.some c.in-Ok.ensures.follows fits.1;
    }

pub returns-in-Ok-clause-follows : goal.returns-in-Ok-clause-follows
returns-in-Ok-clause-follows g c = subst (FollowsSeen Follows c.in-Ok.held.value) c.take_seat-seat.ensures.seen c.in-Ok.ensures.follows

pub put_seat-requires-clause-seat : goal.put_seat-requires-clause-seat
put_seat-requires-clause-seat g c = λ slot here.
    let at : slice_get c.args.self.now.slots.items c.args.heap ≡ Some c.index.result.now =
    slice_get_read c.args.self.now.slots.items (length c.args.self.now.slots.items) c.args.heap c.index.result.now refl c.requires.heap c.index.ensures in
    let one : c.index.result.now ≡ slot = same_Some c.index.result.now slot (sym at ∙ here) in
    let fits = c.take_seat-seat.ensures.seat c.index.result.now at in
    let seen_is = subst (λ o. IfSome o (IsOf c.index.result.now)) (sym c.in-Err.ensures.worn.1) fits.1 in
    (c.in-Err.ensures.worn.0 ∙ fits.0 ∙ ap (λ (r : HeapSlot). id_of r.lock) one, subst (λ (r : HeapSlot). IfSome (seen c.in-Err.seat) (IsOf r)) one seen_is)

pub returns-in-Err-clause-outside : goal.returns-in-Err-clause-outside
returns-in-Err-clause-outside g c = changed_back c.args.heap c.args.pass.now c.take_seat-seat.new.pass c.put_seat.new.pass c.take_seat-seat.ensures.outside c.put_seat.ensures.outside

pub returns-in-Err-clause-back : goal.returns-in-Err-clause-back
returns-in-Err-clause-back g c =
    back_one c.args.self.now c.args.heap c.args.pass.now c.take_seat-seat.new.pass c.put_seat.new.pass c.take_seat-seat.ensures.outside c.put_seat.ensures.outside c.put_seat.ensures.seats
    (c.put_seat.ensures.seen ∙ c.in-Err.ensures.worn.1 ∙ c.take_seat-seat.ensures.seen) (c.put_seat.ensures.turns ∙ c.in-Err.ensures.worn_logged ∙ c.take_seat-seat.ensures.turns)

pub returns-in-Ok-clause-turns : goal.returns-in-Ok-clause-turns
returns-in-Ok-clause-turns g c = c.in-Ok.ensures.logged ∙ c.take_seat-seat.ensures.turns

pub returns-in-Err-clause-why : goal.returns-in-Err-clause-why
returns-in-Err-clause-why g c = subst (λ n. last_ticket ≤ n) (sym c.put_seat.ensures.reached) c.in-Err.ensures.last
