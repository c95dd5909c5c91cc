-- What a command's work leaves of a heap that is lent to it: records more, and nothing else.

use Rattle.std.proofs.Common.{refl, ◌∙◌, ◌≡◌}
use Rattle.zq_commands.specs.RecordedBooks.{recorded_itself, recorded_through}
use Rattle.zq_commands.specs.VecBooks.{IsRecordedOn}
use Rattle.zq_spread.specs.declared.locked_heap.LockedHeap.{LockedHeap}

-- the total stays, since steps are counted when the call ends
abbrev pub IsKeptOn : LockedHeap → LockedHeap → Type 0
IsKeptOn old new = (new.total ≡ old.total) × IsRecordedOn old.book new.book

pub kept_itself : (x : LockedHeap) → IsKeptOn x x
kept_itself x = (refl, recorded_itself x.book)

pub kept_through : (x y z : LockedHeap) → IsKeptOn x y → IsKeptOn y z → IsKeptOn x z
kept_through x y z first second =
    (second.0 ∙ first.0, recorded_through x.book y.book z.book first.1 second.1)
