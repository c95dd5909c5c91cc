-- A hole in the heap, from which a slot was taken out, and where it moves.
use Rattle.std.specs.Prelude.{Bool, List, Some, get_or, length, slice_get, slice_set, swap, ℕ, ◌*◌, ◌+◌, ◌<◌, ◌≤◌, ◌≡◌, ◌≢◌}
use Rattle.std.proofs.Common.{ap, arith, inl, inr, subst, sym, ◌∙◌}
use Rattle.std.proofs.lemmas.Bool.{cases_eq}
use Rattle.std.proofs.lemmas.List.{get_or-set_other, length-map, length-set, map-set, set-set}
use Rattle.std.proofs.lemmas.Option.{same_Some, slice_get_within}
use Rattle.std.specs.BinaryHeap.Sift.{ComparesAt, IsGreaterChild}
use Rattle.std.specs.Ordering.{is_lt}
use Rattle.zq_posheap.proofs.Linked.{hole_moved, index_within, no_hole_taken}
use Rattle.zq_posheap.proofs.Lists.{map-swap, set_again, slice_get-set_other, slice_get-set_same, swap-set}
use Rattle.zq_posheap.proofs.Scored.{compares}
use Rattle.zq_posheap.proofs.Sifting.{same_child}
use Rattle.zq_posheap.specs.Links.{IsLinked}
use Rattle.zq_posheap.specs.Moves.{HasHole, IsKnown, IsLinkedHeap, KeepsMembers, nears_in, pairs_in, pairs_of, queue_of, queue_with}
use Rattle.zq_posheap.specs.Order.{scored_at, scored_cmp, scored_slots, turned_cmp}
use Rattle.zq_posheap.specs.declared.heap.Heap.{Heap}
use Rattle.zq_posheap.specs.declared.heap.Slot.{Slot}

module _ {V : Type 0} where
  -- as many places with the slot as without
  pub long_with : (heap : Heap V) (place : ℕ) (slot : Slot) → length (queue_with heap place slot) ≡ length heap.slots.items
  long_with heap place slot = length-map (slice_set heap.slots.items place slot) (scored_at (pairs_in heap)) ∙ length-set heap.slots.items place slot

  -- lists that are known to be linked are a heap's
  pub linked_as : (old new : Heap V) (slots : List Slot) (positions : List ℕ) → KeepsMembers old new → new.slots.items ≡ slots → new.positions.items ≡ positions →
      IsLinked slots positions (nears_in old) → IsLinkedHeap new
  linked_as old new slots positions kept is told linked = rw (is, told, kept.members) linked

  -- a heap with nothing taken out has a hole where a slot is taken out
  pub taken : (heap : Heap V) → IsLinkedHeap heap → (place : ℕ) (slot : Slot) → slice_get heap.slots.items place ≡ Some slot → HasHole heap place slot
  taken heap linked place slot at = record {
    within = slice_get_within heap.slots.items place slot at;
    known = linked.near;
    linked = no_hole_taken heap.slots.items heap.positions.items (nears_in heap) linked place slot at;
  }

  -- and then the slots in order are those with the slot
  pub taken_queue : (heap : Heap V) (place : ℕ) (slot : Slot) → slice_get heap.slots.items place ≡ Some slot → queue_with heap place slot ≡ queue_of heap
  taken_queue heap place slot at = ap (scored_slots (pairs_in heap)) (set_again heap.slots.items place slot at)

  -- the slot put into its hole
  pub filled_queue : (heap new : Heap V) (place : ℕ) (slot : Slot) → KeepsMembers heap new → new.slots.items ≡ slice_set heap.slots.items place slot →
      queue_of new ≡ queue_with heap place slot
  filled_queue heap new place slot kept is = λ k. scored_slots (pairs_of (kept.members k).entries) (is k)

module _ {V : Type 0} (heap : Heap V) (a : ℕ) (x : Slot) (hole : HasHole heap a x) where
  pub slot_there : slice_get (slice_set heap.slots.items a x) a ≡ Some x
  slot_there = slice_get-set_same heap.slots.items a x hole.within

  -- the index of the slot that was taken out has a position
  pub slot_placed : x.index < length heap.positions.items
  slot_placed = omega (
    arith,
    index_within (slice_set heap.slots.items a x) (slice_set heap.positions.items x.index a) (nears_in heap) hole.linked a x slot_there,
    length-set heap.positions.items x.index a,
  )

  -- and the slot is known
  pub slot_known : IsKnown heap x
  slot_known = hole.linked.near a x slot_there

  module _ (b : ℕ) (y : Slot) (at_b : slice_get heap.slots.items b ≡ Some y) (apart : a ≢ b) where
    pub other_there : slice_get (slice_set heap.slots.items a x) b ≡ Some y
    other_there = slice_get-set_other heap.slots.items a b x (λ e. apart (sym e)) ∙ at_b

    -- as that of another has
    pub other_placed : y.index < length heap.positions.items
    other_placed = omega (
      arith,
      index_within (slice_set heap.slots.items a x) (slice_set heap.positions.items x.index a) (nears_in heap) hole.linked b y other_there,
      length-set heap.positions.items x.index a,
    )

    -- how the slot compares with another
    pub goes_before : (r : Bool) → r ≡ is_lt (scored_cmp (scored_at (pairs_in heap) x) (scored_at (pairs_in heap) y)) → ComparesAt turned_cmp (queue_with heap a x) b a r
    goes_before r is = compares (pairs_in heap) (slice_set heap.slots.items a x) a b x y r slot_there other_there is

    pub goes_after : (r : Bool) → r ≡ is_lt (scored_cmp (scored_at (pairs_in heap) y) (scored_at (pairs_in heap) x)) → ComparesAt turned_cmp (queue_with heap a x) a b r
    goes_after r is = compares (pairs_in heap) (slice_set heap.slots.items a x) b a y x r other_there slot_there is

    module _ (new : Heap V) (kept : KeepsMembers heap new) (is : new.slots.items ≡ slice_set heap.slots.items a y)
        (told : new.positions.items ≡ slice_set heap.positions.items y.index a) where
      -- another slot comes into the hole, which is where that was
      pub moved : HasHole new b x
      moved = record {
        within = omega (arith, slice_get_within heap.slots.items b y at_b, kept.len);
        known = λ p s here.
            let here' : slice_get (slice_set heap.slots.items a y) p ≡ Some s = ap (λ xs. slice_get xs p) (sym is) ∙ here in
            let is_known : IsKnown heap s = elim (cases_eq p a) as (λ _. IsKnown heap s) [
              | inl e ↦
                  let same : y ≡ s = same_Some _ _ (sym (ap (slice_get (slice_set heap.slots.items a y)) e ∙ slice_get-set_same heap.slots.items a y hole.within) ∙ here') in
                  subst (IsKnown heap) same (hole.known b y at_b)
              | inr other ↦ hole.known p s (sym (slice_get-set_other heap.slots.items a p y other) ∙ here')
            ] in
            rw kept.members is_known;
        linked = rw (is, told, kept.members) (hole_moved heap.slots.items heap.positions.items (nears_in heap) a b x y hole.within at_b apart hole.linked);
      }

      -- and the two have changed places
      pub moved_queue : queue_with new b x ≡ swap (queue_with heap a x) a b
      moved_queue =
          let at = scored_at (pairs_in heap) in
          (λ k. scored_slots (pairs_of (kept.members k).entries) (slice_set (is k) b x))
          ∙ ap (λ xs. scored_slots (pairs_in heap) (slice_set xs b x)) (sym (set-set heap.slots.items a x y))
          ∙ ap (scored_slots (pairs_in heap)) (sym (swap-set (slice_set heap.slots.items a x) a b x y slot_there other_there))
          ∙ map-swap at (slice_set heap.slots.items a x) a b x y slot_there other_there

  -- a child that goes before the other goes before it still
  pub first_stays : (c n : ℕ) → a * 2 + 1 ≤ c → IsGreaterChild turned_cmp (queue_of heap) a c n → IsGreaterChild turned_cmp (queue_with heap a x) a c n
  first_stays c n from best = same_child turned_cmp (queue_of heap) (queue_with heap a x) a c n from
      (λ k d apart. ap (λ xs. get_or xs k d) (map-set (scored_at (pairs_in heap)) heap.slots.items a x)
      ∙ get_or-set_other (queue_of heap) a k (scored_at (pairs_in heap) x) d apart) best
