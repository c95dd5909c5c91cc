-- What is seen of the members after a write at an index, or once one more is there.
use Rattle.std.specs.Map.{values_of}
use Rattle.std.specs.Prelude.{List, [], ◌++◌, ◌∷◌, length, map, slice_set, ℕ, ℤ, ◌<◌, ◌≡◌}
use Rattle.std.proofs.Common.{ap, arith, ◌∙◌}
use Rattle.std.proofs.lemmas.List.{length-map, map-append, map-set}
use Rattle.std.proofs.lemmas.Map.Entries.{length-values_of}
use Rattle.std.proofs.lemmas.Option.{slice_get_within}
use Rattle.indexmap.specs.IndexMap.{IndexMap, index_map_len, values, with_value_at}
use Rattle.zq_posheap.proofs.Lists.{set_value_at-values}
use Rattle.zq_posheap.specs.Moves.{IsKnown, IsLinkedHeap, nears_in}
use Rattle.zq_posheap.specs.Order.{near}
use Rattle.zq_posheap.specs.declared.heap.Heap.{Heap}
use Rattle.zq_posheap.specs.declared.heap.ScoredValue.{ScoredValue}
use Rattle.zq_posheap.specs.declared.heap.Slot.{Slot}

-- as many nears as members
pub nears_long : {V : Type 0} (heap : Heap V) → length (nears_in heap) ≡ index_map_len heap.members
nears_long heap = length-map (values heap.members) (λ w. near w.score) ∙ length-values_of heap.members.entries

-- and as many places, where heap and map know each other
pub places_long : {V : Type 0} (heap : Heap V) → IsLinkedHeap heap → length heap.slots.items ≡ index_map_len heap.members
places_long heap linked = omega (arith, nears_long heap, linked.as_many, linked.placed.one_length, length-map heap.slots.items (λ s. s.index))

-- the index of a slot that is known is in the map
pub known_within : {V : Type 0} (heap : Heap V) (s : Slot) → IsKnown heap s → s.index < index_map_len heap.members
known_within heap s known = omega (arith, slice_get_within (nears_in heap) s.index s.near known, nears_long heap)

-- where heap and map know each other, each index of the map has a position
pub index_placed : {V : Type 0} (heap : Heap V) → IsLinkedHeap heap → (i : ℕ) → i < index_map_len heap.members → i < length heap.positions.items
index_placed heap linked i within = omega (arith, within, linked.as_many, nears_long heap)

-- what is seen of the members after a write at an index
pub written_seen : {W Y S : Type 0} (f : W → Y) (m n : IndexMap (List ℕ) W S) (i : ℕ) (w : W) → n ≡ with_value_at m i w → map f (values n) ≡ slice_set (map f (values m)) i (f w)
written_seen f m n i w is = ap (map f) (ap values is ∙ set_value_at-values m.entries i w) ∙ map-set f (values m) i w

-- what is kept of a member
abbrev pub held : {V : Type 0} → ℤ → V → ScoredValue V
held score value = record { score = score; value = value }

-- what is seen of the members once one more is there
pub one_more_seen : {W Y : Type 0} (f : W → Y) (es es' : List (List ℕ × W)) (key : List ℕ) (w : W) → es' ≡ es ++ (key, w) ∷ [] → map f (values_of es') ≡ map f (values_of es) ++ f w ∷ []
one_more_seen f es es' key w is = ap (λ xs. map f (values_of xs)) is ∙ ap (map f) (map-append (λ e. e.1) es ((key, w) ∷ [])) ∙ map-append f (values_of es) (w ∷ [])
