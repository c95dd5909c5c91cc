use Rattle.std.proofs.Common.{arith, ap, sym, ◌∙◌}
use Rattle.std.proofs.lemmas.List.{length-map}
use Rattle.std.proofs.lemmas.Option.{same_Some, slice_get_within}
use Rattle.std.specs.Prelude.{[], get_or, length, swap_remove, take, ◌-◌, ◌<◌, ◌≤◌, ◌≡◌}
use Rattle.std.specs.FinMap.{get, remove}
use Rattle.indexmap.specs.IndexMap.{keys}
use Rattle.zq_posheap.proofs.DropLast.{at_its_place, at_the_end, moved_there, not_none, removed_last, still_linked, still_queued}
use Rattle.zq_posheap.proofs.Linked.{index_within}
use Rattle.zq_posheap.proofs.Lists.{last_is, read_at}
use Rattle.zq_posheap.proofs.Places.{seen_there}
use Rattle.zq_posheap.proofs.Told.{known_within, places_long}
use Rattle.zq_posheap.specs.Moves.{nears_in}
use Rattle.zq_posheap.specs.Whole.{entries_map}
use Rattle.zq_posheap.specs.declared.heap.Slot.{Slot}
use Rattle.zq_posheap.proofs.heap.Heap.drop_last.Given.{Over}
use Rattle.zq_posheap.proofs.Removal.{keys-gone}
use Rattle.zq_posheap.proofs.heap.Heap.drop_last.Goals as goal
use Rattle.zq_posheap.proofs.heap.Heap.drop_last.Goals.{After-from_residual-in_err-held, else-index-last, then-index-last}

pub overflow_sub-last : goal.overflow_sub-last
overflow_sub-last g c = omega (arith, c.len-last.ensures.len, places_long c.args.self.now c.requires.linked, c.requires.occupied)

-- the map has a member at the index of the last place
never : (g : Over) (c : After-from_residual-in_err-held g) → ⊥
never g c =
    let heap = c.args.self.now in
    let slots = heap.slots.items in
    let s = c.in_ok-index.field-0 in
    let last = last_is slots _ c.pop.result s c.requires.occupied heap.slots.ok.0 c.pop.ensures.value c.in_ok-index.was in
    let rest = c.pop.ensures.rest ∙ ap (λ k. take (k - 1) slots) heap.slots.ok.0 in
    let gone = c.swap_remove_index in
    not_none slots c.pop.new.self.items heap.positions.items heap.positions.items heap.members.entries gone.new.self.entries c.requires.linked s last rest gone.result gone.ensures.entry gone.ensures.entries c.in_err-held.was

pub returns-in_err-held : goal.returns-in_err-held
returns-in_err-held g c = absurd (never g c)

pub swap_remove-requires : goal.swap_remove-requires
swap_remove-requires g c =
    let heap = c.args.self.now in
    let slots = heap.slots.items in
    let s = c.in_ok-index.field-0 in
    let last = last_is slots _ c.pop.result s c.requires.occupied heap.slots.ok.0 c.pop.ensures.value c.in_ok-index.was in
    omega (arith, index_within slots heap.positions.items (nears_in heap) c.requires.linked _ s last, heap.positions.ok.0)

pub index_mut-requires : goal.index_mut-requires
index_mut-requires g c =
    let heap = c.args.self.now in
    let slots = heap.slots.items in
    let s = c.in_ok-index.field-0 in
    let last = last_is slots _ c.pop.result s c.requires.occupied heap.slots.ok.0 c.pop.ensures.value c.in_ok-index.was in
    let rest = c.pop.ensures.rest ∙ ap (λ k. take (k - 1) slots) heap.slots.ok.0 in
    let gone = c.swap_remove_index in
    let told = c.swap_remove.ensures.items in
    let inside : s.index < length slots - 1 = omega (arith, c.if-index-last.true, c.len-last.ensures.len, places_long heap c.requires.linked) in
    let at_index = read_at c.swap_remove.new.self.items s.index _ (omega (arith, inside, c.swap_remove.ensures.len, c.swap_remove.new.self.ok.0, heap.positions.ok.0, c.requires.linked.placed.one_length, length-map slots (λ (x : Slot). x.index))) c.index-moved.ensures in
    let there = moved_there slots c.pop.new.self.items heap.positions.items c.swap_remove.new.self.items heap.members.entries gone.new.self.entries c.requires.linked s last rest
    gone.result gone.ensures.entry gone.ensures.entries _ told inside _ at_index in
    omega (arith, slice_get_within c.pop.new.self.items _ _ there, c.pop.new.self.ok.0)

pub returns-clause-still_linked : goal.returns-clause-still_linked
returns-clause-still_linked g c =
    let heap = c.args.self.now in
    let slots = heap.slots.items in
    let s = c.in_ok-index.field-0 in
    let last = last_is slots _ c.pop.result s c.requires.occupied heap.slots.ok.0 c.pop.ensures.value c.in_ok-index.was in
    let rest = c.pop.ensures.rest ∙ ap (λ k. take (k - 1) slots) heap.slots.ok.0 in
    let gone = c.swap_remove_index in
    let told = c.swap_remove.ensures.items in
    elim c.if-index-last.branch [
      | then-index-last w ↦
          let inside : s.index < length slots - 1 = omega (arith, w.if-index-last.true, c.len-last.ensures.len, places_long heap c.requires.linked) in
          let at_index = read_at c.swap_remove.new.self.items s.index _ (omega (arith, inside, c.swap_remove.ensures.len, c.swap_remove.new.self.ok.0, heap.positions.ok.0, c.requires.linked.placed.one_length, length-map slots (λ (x : Slot). x.index))) w.index-moved.ensures in
          let there = moved_there slots c.pop.new.self.items heap.positions.items c.swap_remove.new.self.items heap.members.entries gone.new.self.entries c.requires.linked s last rest
          gone.result gone.ensures.entry gone.ensures.entries _ told inside _ at_index in
          let x = read_at c.pop.new.self.items _ w.index_mut.result.now (slice_get_within c.pop.new.self.items _ _ there) w.index_mut.ensures.value in
          rw w.self-is (still_linked slots c.pop.new.self.items heap.positions.items c.swap_remove.new.self.items heap.members.entries gone.new.self.entries c.requires.linked s last rest
          gone.result gone.ensures.entry gone.ensures.entries _ told _
          (at_its_place slots c.pop.new.self.items heap.positions.items c.swap_remove.new.self.items heap.members.entries gone.new.self.entries c.requires.linked s last rest
          gone.result gone.ensures.entry gone.ensures.entries _ told inside _ at_index w.index_mut.result.now x))
      | else-index-last w ↦
          let past : length slots - 1 ≤ s.index = omega (arith, w.if-index-last.false, c.len-last.ensures.len, places_long heap c.requires.linked) in
          rw w.self-is (still_linked slots c.pop.new.self.items heap.positions.items c.swap_remove.new.self.items heap.members.entries gone.new.self.entries c.requires.linked s last rest
          gone.result gone.ensures.entry gone.ensures.entries _ told _
          (at_the_end slots c.pop.new.self.items heap.positions.items c.swap_remove.new.self.items heap.members.entries gone.new.self.entries c.requires.linked s last rest
          gone.result gone.ensures.entry gone.ensures.entries _ told past))
    ]

pub returns-clause-others : goal.returns-clause-others
returns-clause-others g c =
    let heap = c.args.self.now in
    let slots = heap.slots.items in
    let s = c.in_ok-index.field-0 in
    let last = last_is slots _ c.pop.result s c.requires.occupied heap.slots.ok.0 c.pop.ensures.value c.in_ok-index.was in
    let rest = c.pop.ensures.rest ∙ ap (λ k. take (k - 1) slots) heap.slots.ok.0 in
    let gone = c.swap_remove_index in
    let told = c.swap_remove.ensures.items in
    elim c.if-index-last.branch [
      | then-index-last w ↦
          let inside : s.index < length slots - 1 = omega (arith, w.if-index-last.true, c.len-last.ensures.len, places_long heap c.requires.linked) in
          let at_index = read_at c.swap_remove.new.self.items s.index _ (omega (arith, inside, c.swap_remove.ensures.len, c.swap_remove.new.self.ok.0, heap.positions.ok.0, c.requires.linked.placed.one_length, length-map slots (λ (x : Slot). x.index))) w.index-moved.ensures in
          let there = moved_there slots c.pop.new.self.items heap.positions.items c.swap_remove.new.self.items heap.members.entries gone.new.self.entries c.requires.linked s last rest
          gone.result gone.ensures.entry gone.ensures.entries _ told inside _ at_index in
          let x = read_at c.pop.new.self.items _ w.index_mut.result.now (slice_get_within c.pop.new.self.items _ _ there) w.index_mut.ensures.value in
          rw w.self-is (still_queued slots c.pop.new.self.items heap.positions.items c.swap_remove.new.self.items heap.members.entries gone.new.self.entries c.requires.linked s last rest
          gone.result gone.ensures.entry gone.ensures.entries _ told _
          (at_its_place slots c.pop.new.self.items heap.positions.items c.swap_remove.new.self.items heap.members.entries gone.new.self.entries c.requires.linked s last rest
          gone.result gone.ensures.entry gone.ensures.entries _ told inside _ at_index w.index_mut.result.now x))
      | else-index-last w ↦
          let past : length slots - 1 ≤ s.index = omega (arith, w.if-index-last.false, c.len-last.ensures.len, places_long heap c.requires.linked) in
          rw w.self-is (still_queued slots c.pop.new.self.items heap.positions.items c.swap_remove.new.self.items heap.members.entries gone.new.self.entries c.requires.linked s last rest
          gone.result gone.ensures.entry gone.ensures.entries _ told _
          (at_the_end slots c.pop.new.self.items heap.positions.items c.swap_remove.new.self.items heap.members.entries gone.new.self.entries c.requires.linked s last rest
          gone.result gone.ensures.entry gone.ensures.entries _ told past))
    ]

pub returns-clause-given : goal.returns-clause-given
returns-clause-given g c = λ t is.
    let heap = c.args.self.now in
    let slots = heap.slots.items in
    let s = c.in_ok-index.field-0 in
    let last = last_is slots _ c.pop.result s c.requires.occupied heap.slots.ok.0 c.pop.ensures.value c.in_ok-index.was in
    let same : t ≡ s = same_Some _ _ (sym is ∙ last) in
    sym ((λ k. get (entries_map heap) (get_or (keys heap.members) (same k).index []))
    ∙ seen_there heap.members s.index _ c.len-last.ensures.unique (sym c.swap_remove_index.ensures.entry ∙ c.in_ok-held.was))

pub returns-clause-held : goal.returns-clause-held
returns-clause-held g c = λ t is.
    let heap = c.args.self.now in
    let slots = heap.slots.items in
    let s = c.in_ok-index.field-0 in
    let last = last_is slots _ c.pop.result s c.requires.occupied heap.slots.ok.0 c.pop.ensures.value c.in_ok-index.was in
    let same : t ≡ s = same_Some _ _ (sym is ∙ last) in
    let gone = c.swap_remove_index in
    let removed = removed_last heap.members gone.new.self s (known_within heap s (c.requires.linked.near _ s last)) gone.result gone.ensures.entry gone.ensures.updates in
    let removed' = removed ∙ (λ k. remove (entries_map heap) (get_or (keys heap.members) (sym same k).index [])) in
    elim c.if-index-last.branch [ then-index-last w ↦ rw w.self-is removed' | else-index-last w ↦ rw w.self-is removed' ]

pub returns-clause-places : goal.returns-clause-places
returns-clause-places g c = λ t is.
    let heap = c.args.self.now in
    let slots = heap.slots.items in
    let s = c.in_ok-index.field-0 in
    let last = last_is slots _ c.pop.result s c.requires.occupied heap.slots.ok.0 c.pop.ensures.value c.in_ok-index.was in
    let same : t ≡ s = same_Some _ _ (sym is ∙ last) in
    let gone = c.swap_remove_index in
    let left = keys-gone heap.members.entries gone.new.self.entries s.index gone.result (known_within heap s (c.requires.linked.near _ s last)) gone.ensures.entry gone.ensures.entries
    ∙ (λ k. swap_remove (keys heap.members) (sym same k).index []) in
    elim c.if-index-last.branch [ then-index-last w ↦ rw w.self-is left | else-index-last w ↦ rw w.self-is left ]
