use Rattle.std.proofs.Common.{ap, subst, sym, ◌∙◌}
use Rattle.std.proofs.lemmas.Option.{same_Some, slice_get_read}
use Rattle.std.specs.Prelude.{IfSome, Some, length, refl, slice_get, ◌≡◌}
use Rattle.zq_spread.proofs.LeftAsGiven.{turn_of}
use Rattle.zq_spread.proofs.site.Site.let_go.Goals as goal
use Rattle.zq_spread.specs.LockedHeaps.{Follows, follows_itself}
use Rattle.zq_spread.specs.HeapSlots.{IsOf}
use Rattle.zq_spread.specs.Turns.{HasTurn}
use Rattle.zq_spread.specs.declared.heap_slot.HeapSlot.{HeapSlot}
use Rattle.zq_ticketlock.specs.Seats.{given, held_logged, id_of, logged}
use Rattle.zq_ticketlock.specs.Steps.{FollowsSeen}

pub unlock-seat-requires-clause-own : goal.unlock-seat-requires-clause-own
unlock-seat-requires-clause-own c =
    let at : slice_get c.args.self.now.slots.items c.args.heap ≡ Some c.index.result.now =
    slice_get_read c.args.self.now.slots.items (length c.args.self.now.slots.items) c.args.heap c.index.result.now refl c.requires.heap c.index.ensures in
    let one : c.requires.held.slot ≡ c.index.result.now = same_Some c.requires.held.slot c.index.result.now (sym c.requires.held.at ∙ at) in
    c.requires.held.lock ∙ ap (λ (r : HeapSlot). id_of r.lock) one

pub unlock-seat-requires-clause-follows : goal.unlock-seat-requires-clause-follows
unlock-seat-requires-clause-follows c = subst (FollowsSeen Follows c.args.held.value) (sym c.requires.held.was_given) (follows_itself c.args.held.value)

pub put_seat-requires-clause-seat : goal.put_seat-requires-clause-seat
put_seat-requires-clause-seat c = λ slot here.
    let one : c.requires.held.slot ≡ slot = same_Some c.requires.held.slot slot (sym c.requires.held.at ∙ here) in (
      c.unlock-seat.ensures.lock ∙ c.requires.held.lock ∙ ap (λ (r : HeapSlot). id_of r.lock) one,
      subst (λ o. IfSome o (IsOf slot)) (sym c.unlock-seat.ensures.seen) (subst (λ (r : HeapSlot). IsOf r c.args.held.value) one c.requires.held.of),
    )

pub returns-clause-turn : goal.returns-clause-turn
returns-clause-turn c =
    let held = c.args.held in
    subst (λ l. HasTurn held.value held.value l (held_logged held)) (sym c.put_seat.ensures.turns)
    (turn_of (given held) held.value held.value held.ticket (logged c.unlock-seat.result) (held_logged held) c.requires.held.was_given c.unlock-seat.ensures.logged)
