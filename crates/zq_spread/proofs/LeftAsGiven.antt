-- Heaps that were let go as they were given, and turns that worked.

use Rattle.std.proofs.Common.{ap, append_assoc, refl, subst, sym, ◌∙◌}
use Rattle.std.specs.Prelude.{IfSome, List, None, Option, Some, [], ℕ, ◌++◌, ◌∷◌, ◌≡◌}
use Rattle.zq_spread.specs.Turns.{AreUnchanged, HasTurn, IsLeftAsGiven, IsTurnAfter}
use Rattle.zq_spread.specs.declared.locked_heap.LockedHeap.{LockedHeap}
use Rattle.zq_ticketlock.specs.Seats.{entry}
use Rattle.zq_ticketlock.specs.declared.turns.Entry.{Entry}

-- no hold
pub none_held : (turns : List (Entry LockedHeap)) → IsLeftAsGiven turns turns
none_held turns = record { holds = []; unchanged = tt; turns = refl }

-- one hold that changed nothing
pub held_once : (given home : LockedHeap) (later before : List (Entry LockedHeap)) → HasTurn given home later before → home.book ≡ given.book → IsLeftAsGiven later before
held_once given home later before turn same = record { holds = entry turn.0 given home ∷ []; unchanged = (same, tt); turns = turn.1 }

both_unchanged : (xs ys : List (Entry LockedHeap)) → AreUnchanged xs → AreUnchanged ys → AreUnchanged (xs ++ ys)
both_unchanged [] ys first then = then
both_unchanged (e ∷ xs) ys first then = (first.0, both_unchanged xs ys first.1 then)

-- some holds, and then others
pub left_through : (before mid later : List (Entry LockedHeap)) → IsLeftAsGiven later mid → IsLeftAsGiven mid before → IsLeftAsGiven later before
left_through before mid later then first = record {
  holds = then.holds ++ first.holds;
  unchanged = both_unchanged then.holds first.holds then.unchanged first.unchanged;
  turns = then.turns ∙ ap (λ l. then.holds ++ l) first.turns ∙ sym (append_assoc then.holds first.holds before);
}

-- one hold that worked
pub worked_once : (given home : LockedHeap) (later before : List (Entry LockedHeap)) → HasTurn given home later before → IsTurnAfter given home later before
worked_once given home later before turn = record { passed = before; left = none_held before; turn = turn }

-- one hold that worked, after holds that changed nothing
pub worked_after : (given home : LockedHeap) (before mid later : List (Entry LockedHeap)) → IsTurnAfter given home later mid → IsLeftAsGiven mid before → IsTurnAfter given home later before
worked_after given home before mid later turn left = record { passed = turn.passed; left = left_through before mid turn.passed turn.left left; turn = turn.turn }

-- what the lock says of a hold whose value was given
pub turn_of : (o : Option LockedHeap) (given home : LockedHeap) (ticket : ℕ) (later before : List (Entry LockedHeap)) → o ≡ Some given → IfSome o (λ found. later ≡ entry ticket found home ∷ before) →
    HasTurn given home later before
turn_of o given home ticket later before is told = (ticket, subst (λ p. IfSome p (λ found. later ≡ entry ticket found home ∷ before)) is told)

-- the same, whatever was given
pub turns_of_given : (o : Option LockedHeap) (home : LockedHeap) (ticket : ℕ) (later before : List (Entry LockedHeap)) → IfSome o (λ found. later ≡ entry ticket found home ∷ before) →
    IfSome o (λ found. HasTurn found home later before)
turns_of_given (Some x) home ticket later before told = (ticket, told)
turns_of_given None home ticket later before told = tt
