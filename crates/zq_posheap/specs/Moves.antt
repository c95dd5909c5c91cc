-- What a heap holds, and what moving its places keeps.
use Rattle.std.specs.Prelude.{List, [], Some, ℕ, ℤ, min, ◌-◌, ◌<◌, ◌≡◌, length, map, slice_get, slice_index_or, slice_set, vec_capacity}
use Rattle.indexmap.specs.IndexMap.{keys, spare, values}
use Rattle.zq_posheap.specs.Links.{IsLinked}
use Rattle.zq_posheap.specs.Order.{Scored, near, nobody, scored_slots}
use Rattle.zq_posheap.specs.declared.heap.Heap.{Heap}
use Rattle.zq_posheap.specs.declared.heap.ScoredValue.{ScoredValue}
use Rattle.zq_posheap.specs.declared.heap.Slot.{Slot}

-- the scores of a map's entries with their members
abbrev pub pairs_of : {V : Type 0} → List (List ℕ × ScoredValue V) → List Scored
pairs_of entries = map (λ e. (e.1.score, e.0)) entries

-- the members with their scores, in the map's order
abbrev pub pairs_in : {V : Type 0} → Heap V → List Scored
pairs_in heap = pairs_of heap.members.entries

-- the score of the member at an index of the map, and the member
abbrev pub pair_at : {V : Type 0} → Heap V → ℕ → Scored
pair_at heap index = slice_index_or (pairs_in heap) index nobody

-- the members with their scores, in the order of the heap
abbrev pub queue_of : {V : Type 0} → Heap V → List Scored
queue_of heap = scored_slots (pairs_in heap) heap.slots.items

-- a member's score and value
abbrev pub shown : {V : Type 0} → ScoredValue V → ℤ × V
shown held = (held.score, held.value)

-- the score and the value of each member, in the map's order
abbrev pub shown_of : {V : Type 0} → Heap V → List (ℤ × V)
shown_of heap = map shown (values heap.members)

-- what is near the score of each member, in the map's order
abbrev pub nears_in : {V : Type 0} → Heap V → List ℤ
nears_in heap = map (λ w. near w.score) (values heap.members)

-- the member at an index of the map
abbrev pub member_of : {V : Type 0} → Heap V → ℕ → List ℕ
member_of heap index = slice_index_or (keys heap.members) index []

-- heap and map know each other
abbrev pub IsLinkedHeap : {V : Type 0} → Heap V → Type 0
IsLinkedHeap heap = IsLinked heap.slots.items heap.positions.items (nears_in heap)

-- a slot's index is in the map, and what it has of the score is what is near the member's
abbrev pub IsKnown : {V : Type 0} → Heap V → Slot → Type 0
IsKnown heap s = slice_get (nears_in heap) s.index ≡ Some s.near

-- each slot is known
abbrev pub AreKnown : {V : Type 0} → Heap V → Type 0
AreKnown heap = (p : ℕ) (s : Slot) → slice_get heap.slots.items p ≡ Some s → IsKnown heap s

-- how many members more find room in all three
abbrev pub room_of : {V : Type 0} → Heap V → ℕ
room_of heap = min (spare heap.members)
    (min (vec_capacity heap.slots - length heap.slots.items)
    (vec_capacity heap.positions - length heap.positions.items))

-- new has the members and the room of old, and as many places
pub record KeepsMembers {V : Type 0} (old new : Heap V) : Type 0 where
  pub members : new.members ≡ old.members
  pub len : length new.slots.items ≡ length old.slots.items
  pub room : room_of new ≡ room_of old

-- new has the members and the room of old, at other positions perhaps
pub record OnlyMoves {V : Type 0} (old new : Heap V) : Type 0 where
  pub linked : IsLinkedHeap new
  pub kept : KeepsMembers old new

-- the heap's order with a slot put at a place
abbrev pub queue_with : {V : Type 0} → Heap V → ℕ → Slot → List Scored
queue_with heap place slot = scored_slots (pairs_in heap) (slice_set heap.slots.items place slot)

-- a slot was taken out of the place, and heap and map know each other once it is put there
pub record HasHole {V : Type 0} (heap : Heap V) (place : ℕ) (slot : Slot) : Type 0 where
  pub within : place < length heap.slots.items
  pub known : AreKnown heap
  pub linked : IsLinked (slice_set heap.slots.items place slot)
      (slice_set heap.positions.items slot.index place) (nears_in heap)
