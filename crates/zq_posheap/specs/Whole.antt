-- What a heap keeps, and what is seen of it.
use Rattle.std.specs.Prelude.{zip}
use Rattle.std.specs.BinaryHeap.{IsHeap}
use Rattle.std.specs.FinMap.{from_entries}
use Rattle.indexmap.specs.IndexMap.{keys}
use Rattle.zq_posheap.specs.Members.{Entries}
use Rattle.zq_posheap.specs.Moves.{IsLinkedHeap, queue_of, shown_of}
use Rattle.zq_posheap.specs.Order.{turned_cmp}
use Rattle.zq_posheap.specs.declared.heap.Heap.{Heap}

-- the scores and the values of a heap's members
abbrev pub entries_map : {V : Type 0} → Heap V → Entries V
entries_map heap = from_entries (zip (keys heap.members) (shown_of heap))

-- heap and map know each other, and no member goes before its parent
pub record IsWhole {V : Type 0} (heap : Heap V) : Type 0 where
  pub linked : IsLinkedHeap heap
  pub ordered : IsHeap turned_cmp (queue_of heap)
