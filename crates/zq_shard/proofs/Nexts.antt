-- The next operation of a site in a heap: it is new there, and what it makes of the heap.

use Rattle.std.proofs.Common.{List, refl, ℕ, ◌+◌, ◌∙◌, ◌≡◌}
use Rattle.std.specs.Prelude.{slice_index, slice_set, ◌*◌, ◌-◌}
use Rattle.zq_dots.specs.Placed.{IsRanged, Placed}
use Rattle.zq_entry.specs.Within.{AreSumsWithin}
use Rattle.zq_model.specs.Bounded.{IsBounded}
use Rattle.zq_model.specs.Image.{Members, entry_after, entry_at, image_after, put_entry}
use Rattle.zq_model.specs.Operation.{Act, MOST}
use Rattle.zq_model.specs.Sets.{New, taken_of}
use Rattle.zq_shard.proofs.BoundedSteps.{new_bounded, new_has_room, next_new}
use Rattle.zq_shard.specs.Shard.{HeapImage, IsHeapImage, IsOfHeap, next_operation}

module _ (s : HeapImage) (site n : ℕ) (key member : List ℕ) (act : Act) (next : n ≡ slice_index s.image.vector site + 1) where
  abbrev made : Placed
  made = next_operation s site key member act

  made_new : taken_of s.image.vector made.operation ≡ New
  made_new = next_new s.image.vector made.operation refl refl

  -- there is room for its increment
  pub made_has_room : IsHeapImage s → IsRanged made → AreSumsWithin site (MOST * (n - 1)) (entry_at s.image.members (key, member))
  made_has_room is sound = rw next (new_has_room s made is sound made_new)

  -- the heap after it
  pub made_image : (v : List ℕ) (members : Members) → v ≡ slice_set s.image.vector site n →
      members ≡ put_entry s.image.members (key, member) (entry_after act site n s.image.vector (entry_at s.image.members (key, member))) →
      record { vector = v; members = members } ≡ image_after made.operation s.image
  made_image v members vector_is members_are =
      let v_is : v ≡ slice_set s.image.vector site made.operation.n = vector_is ∙ (λ i. slice_set s.image.vector site (next i)) in
      let are : members ≡ put_entry s.image.members (key, member) (entry_after act site made.operation.n s.image.vector (entry_at s.image.members (key, member)))
      = members_are ∙ (λ i. put_entry s.image.members (key, member) (entry_after act site (next i) s.image.vector (entry_at s.image.members (key, member)))) in
      λ i. record { vector = v_is i; members = are i }

  -- it keeps the bounds
  pub made_bounded : IsHeapImage s → IsRanged made → IsOfHeap s made → IsBounded s.heaps s.heap (image_after made.operation s.image)
  made_bounded is sound here = new_bounded s made is sound here made_new
