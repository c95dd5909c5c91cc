-- The operations that the holds of a pass have brought to a heap.

use Rattle.std.specs.List.{sum, sum_by}
use Rattle.std.specs.Prelude.{ℕ, ◌-◌, ◌≡◌}
use Rattle.zq_spread.specs.Turns.{turns_at}
use Rattle.zq_spread.specs.declared.locked_heap.LockedHeap.{LockedHeap}
use Rattle.zq_spread.specs.declared.pass.Pass.{Pass}
use Rattle.zq_ticketlock.specs.declared.turns.Entry.{Entry}

-- by so many the vector that a hold put home is above the one that it was given, in all counters
abbrev pub gained_by : Entry LockedHeap → ℕ
gained_by e = sum e.turn.home.book.state.vector - sum e.turn.given.book.state.vector

-- how many operations all holds of the heap by the pass have brought it
abbrev pub gained_at : Pass → ℕ → ℕ
gained_at pass h = sum_by gained_by (turns_at pass h)

-- the pass has brought no heap an operation: it may have told books what was handed on
abbrev pub TookNothing : Pass → Pass → Type 0
TookNothing before after = (h : ℕ) → gained_at after h ≡ gained_at before h
