-- The heaps that a command works in.
use Rattle.std.specs.Prelude.{ℕ, [], ◌∷◌}
use Rattle.zq_model.specs.Heaps.{heap_of}
use Rattle.zq_words.specs.Command.{Command, Ping, Zadd, ZaddIncr, Zincrby, Zrem, Zscore, Zpopnear}
use Rattle.zq_words.specs.declared.heaps.Heaps.{Heaps}
use Rattle.zq_words.specs.declared.heaps.Heaps.TheVariants.{NoHeap, One, Near, All}

-- of this number of heaps
abbrev pub heaps_of : Command → ℕ → Heaps
heaps_of (Ping message) heaps = NoHeap
heaps_of (Zadd key flags ((score, member) ∷ [])) heaps = One (heap_of key member heaps)
heaps_of (ZaddIncr key flags increment member) heaps = One (heap_of key member heaps)
heaps_of (Zincrby key increment member) heaps = One (heap_of key member heaps)
heaps_of (Zrem key (member ∷ [])) heaps = One (heap_of key member heaps)
heaps_of (Zscore key member) heaps = One (heap_of key member heaps)
heaps_of (Zpopnear key) heaps = Near
heaps_of _ heaps = All
