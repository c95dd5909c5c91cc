-- Operations that have a spelling together, by differences.

use Rattle.std.specs.Prelude.{List, [], ℕ, ◌∷◌}
use Rattle.zq_batch.specs.Batch.{AreBatch}
use Rattle.zq_batch.specs.Spelling.{batch_bytes}
use Rattle.zq_dots.specs.Placed.{Placed}

-- the number of heaps, and the heap, of the first of them
abbrev pub heaps_of : List Placed → ℕ
heaps_of [] = 0
heaps_of (o ∷ ops) = o.heaps

abbrev pub heap_of : List Placed → ℕ
heap_of [] = 0
heap_of (o ∷ ops) = o.operation.heap

-- they have a spelling together
abbrev pub AreTogether : List Placed → Type 0
AreTogether ops = AreBatch (heaps_of ops) (heap_of ops) ops

-- which is this
abbrev pub batch_of : List Placed → List ℕ
batch_of ops = batch_bytes (heaps_of ops) (heap_of ops) ops
