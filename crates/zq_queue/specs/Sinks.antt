-- Members that keep their places or come to lower ones.

use Rattle.std.specs.FinMap.{get}
use Rattle.std.specs.Prelude.{List, Some, slice_get, ℕ, ◌≡◌, ◌≤◌}
use Rattle.zq_model.specs.Image.{Entry}
use Rattle.zq_queue.specs.Queued.{Queued}

-- each member of old that new still has stands there no higher than it stood
abbrev pub Sinks : Queued → Queued → Type 0
Sinks old new = (i : ℕ) (member : List ℕ) (entry : Entry) → slice_get old.places i ≡ Some member →
    get new.entries member ≡ Some entry →
    (j : ℕ) × ((j ≤ i) × (slice_get new.places j ≡ Some member))

-- each member has a place
abbrev pub AreListed : Queued → Type 0
AreListed queue = (member : List ℕ) (entry : Entry) → get queue.entries member ≡ Some entry →
    (i : ℕ) × (slice_get queue.places i ≡ Some member)
