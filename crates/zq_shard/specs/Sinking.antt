-- A change of one key's members, by which the others stay and none comes higher.

use Rattle.std.specs.FinMap.{get}
use Rattle.std.specs.Prelude.{List, None, Option, Some, [], ℕ, ◌++◌, ◌∷◌, ◌≡◌}
use Rattle.zq_model.specs.Image.{Entry, Place}
use Rattle.zq_model.specs.Rule.{Rule}
use Rattle.zq_queue.specs.Entries.{Entries}
use Rattle.zq_queue.specs.Queued.{Queued}
use Rattle.zq_queue.specs.Sinks.{AreListed}
use Rattle.zq_shard.specs.Queues.{HasAt, entries_in, unless_empty}
use Rattle.zq_shard.specs.Standing.{IsNoHigher, StandsAt, order_of}

-- each member of old that new still has stands there no higher than it stood
abbrev pub SinkIn : List (List ℕ × Queued) → List (List ℕ × Queued) → Type 0
SinkIn old new = (q : Place) (entry : Entry) (key member : ℕ) → StandsAt (order_of old) q key member →
    get (entries_in new q.0) q.1 ≡ Some entry →
    (k : ℕ) × ((m : ℕ) × (IsNoHigher k m key member × StandsAt (order_of new) q k m))

-- the queue of these entries and places
abbrev pub queue_with : Rule → Entries → List (List ℕ) → Queued
queue_with rule entries places = record { rule = rule; entries = entries; places = places }

-- the key's queue has these entries now, and each member a place; the other keys' are as they were;
-- and no member comes higher
pub record IsSetAt (rule : Rule) (key : List ℕ) (entries : Entries)
    (old new : List (List ℕ × Queued)) : Type 0 where
  pub places : List (List ℕ)
  pub has : HasAt key (unless_empty (queue_with rule entries places)) old new
  pub listed : AreListed (queue_with rule entries places)
  pub sinks : SinkIn old new

-- where there is a queue, it stands behind all others; else all is as it was
abbrev pub IsAddedLast : List ℕ → Option Queued → List (List ℕ × Queued) →
    List (List ℕ × Queued) → Type 0
IsAddedLast key None old new = new ≡ old
IsAddedLast key (Some queue) old new = new ≡ old ++ (key, queue) ∷ []
