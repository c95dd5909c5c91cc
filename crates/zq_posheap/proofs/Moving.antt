-- What moves of places keep, one after another.
use Rattle.std.specs.FinMap.{from_entries}
use Rattle.std.specs.Prelude.{◌≡◌, length, map, zip}
use Rattle.zq_posheap.specs.Whole.{entries_map}
use Rattle.std.proofs.Common.{refl, ◌∙◌}
use Rattle.std.proofs.lemmas.List.{length-map}
use Rattle.indexmap.specs.IndexMap.{keys, values}
use Rattle.zq_posheap.specs.Moves.{KeepsMembers, pairs_in, queue_of, shown}
use Rattle.zq_posheap.specs.Order.{scored_at}
use Rattle.zq_posheap.specs.declared.heap.Heap.{Heap}

module _ {V : Type 0} where
  pub long : (heap : Heap V) → length (queue_of heap) ≡ length heap.slots.items
  long heap = length-map heap.slots.items (scored_at (pairs_in heap))

  pub stays : (heap : Heap V) → KeepsMembers heap heap
  stays heap = record { members = refl; len = refl; room = refl }

  pub goes_on : (a b c : Heap V) → KeepsMembers a b → KeepsMembers b c → KeepsMembers a c
  goes_on a b c first second = record {
    members = second.members ∙ first.members;
    len = second.len ∙ first.len;
    room = second.room ∙ first.room;
  }

  -- moved places leave what is seen
  pub same_entries : (a b : Heap V) → KeepsMembers a b → entries_map b ≡ entries_map a
  same_entries a b kept = λ k. from_entries (zip (keys (kept.members k)) (map shown (values (kept.members k))))
