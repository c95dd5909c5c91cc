-- What a queue is seen as, by what its members are.
use Rattle.std.specs.Prelude.{◌≡◌}
use Rattle.zq_queue.specs.Kept.{AreSame, Kept}
use Rattle.zq_queue.specs.Queued.{Queued}

abbrev pub seen : Kept → Queued
seen k = record { rule = k.rule; entries = k.entries; places = k.places }

-- members that are the same are seen as one queue
pub seen_same : (old new : Kept) → AreSame old new → seen new ≡ seen old
seen_same old new same = λ i. record { rule = same.rule i; entries = same.entries i; places = same.places i }
