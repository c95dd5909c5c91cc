use Rattle.std.proofs.Common.{ap, arith, max, refl, sym, ◌∙◌, ◌≡◌, ◌≤◌}
use Rattle.zq_journal.specs.Books.{LAST_STAMP}
use Rattle.zq_spread.proofs.LeftAsGiven.{held_once, turn_of}
use Rattle.zq_spread.proofs.Refused.{worn_by}
use Rattle.zq_spread.proofs.heap_slot.HeapSlot.date.Goals as goal
use Rattle.zq_spread.specs.declared.locked_heap.LockedHeap.{LockedHeap}
use Rattle.zq_ticketlock.specs.Seats.{given, held_logged, logged, reached, seen, value_of}

pub returns-then-last-ge-LAST_COUNT-clause-left : goal.returns-then-last-ge-LAST_COUNT-clause-left
returns-then-last-ge-LAST_COUNT-clause-left c =
    let held = c.args.held in
    let value : LockedHeap = value_of held in
    held_once value value (logged c.unlock.result) (held_logged held) (turn_of (given held) value value held.ticket (logged c.unlock.result) (held_logged held) c.requires.given c.unlock.ensures.logged) refl

pub returns-then-last-ge-LAST_COUNT-clause-worn : goal.returns-then-last-ge-LAST_COUNT-clause-worn
unfolding LAST_STAMP
returns-then-last-ge-LAST_COUNT-clause-worn c =
    let value : LockedHeap = value_of c.args.held in
    let stamp : value.book.stamp ≡ c.stamp.result = sym (c.stamp.ensures.same ∙ ap (λ (v : LockedHeap). v.book.stamp) c.value.ensures) in
    let most : LAST_STAMP ≤ max c.args.floor c.stamp.result = omega (arith, c.max-last.ensures, c.if-last-ge-LAST_COUNT.true) in
    worn_by c.args.floor c.stamp.result (reached c.unlock.result) value (seen c.unlock.result) most stamp c.unlock.ensures.seen
