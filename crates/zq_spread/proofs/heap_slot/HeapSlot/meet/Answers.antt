use Rattle.std.proofs.Common.{refl, subst, sym, ◌++◌, ◌∙◌}
use Rattle.zq_spread.proofs.LeftAsGiven.{held_once, none_held, turn_of}
use Rattle.zq_spread.proofs.heap_slot.HeapSlot.meet.Goals as goal
use Rattle.zq_spread.specs.Turns.{IsLeftAsGiven}
use Rattle.zq_spread.specs.declared.locked_heap.LockedHeap.{LockedHeap}
use Rattle.zq_ticketlock.specs.Seats.{given, held_logged, logged, value_of}

pub returns-in-Err-clause-worn : goal.returns-in-Err-clause-worn
returns-in-Err-clause-worn g c = let both = c.in-Err.ensures.worn in (both.1.0, both.1.1, sym both.0 ∙ both.1.1, both.1.2.0, both.1.2.1)

pub returns-in-Ok-clause-left : goal.returns-in-Ok-clause-left
returns-in-Ok-clause-left g c =
    let held = c.in-Ok.held in
    let value : LockedHeap = value_of held in
    let both = logged c.args.first ++ logged c.args.second in
    let once = held_once value value (logged c.unlock.result) (held_logged held) (turn_of (given held) value value held.ticket (logged c.unlock.result) (held_logged held) c.in-Ok.ensures.given c.unlock.ensures.logged) refl in
    (subst (λ l. IsLeftAsGiven (logged c.unlock.result) l) c.in-Ok.ensures.logged once, subst (λ l. IsLeftAsGiven l both) (sym c.in-Ok.ensures.second_logged) (none_held both))

pub returns-in-Err-clause-worn_left : goal.returns-in-Err-clause-worn_left
returns-in-Err-clause-worn_left g c =
    let both = logged c.args.first ++ logged c.args.second in
    let same = c.in-Err.ensures.worn_logged in
    (subst (λ l. IsLeftAsGiven l both) (sym same.0) (none_held both), subst (λ l. IsLeftAsGiven l both) (sym same.1) (none_held both))
