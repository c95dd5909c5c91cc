use Rattle.std.proofs.Common.{ap, arith, sym, ◌∙◌}
use Rattle.std.proofs.lemmas.Int.{to_z-of_z}
use Rattle.std.proofs.lemmas.List.{length-set}
use Rattle.std.specs.FinMap.{insert}
use Rattle.std.specs.Int.{w128, w64}
use Rattle.std.specs.Prelude.{Some, length, min, option_map, ◌-◌}
use mir.Val.{of_z, to_z}
use Rattle.indexmap.proofs.CallerLemmas.{keys-with_value_at}
use Rattle.indexmap.specs.IndexMap.{keys, spare}
use Rattle.zq_posheap.proofs.Entries.{seen_at_index}
use Rattle.zq_posheap.proofs.Linked.{one_slot, place_within, rescored, slot, slot_at}
use Rattle.zq_posheap.proofs.Lists.{mapped_at, read_at, there_is}
use Rattle.zq_posheap.proofs.Moving.{same_entries}
use Rattle.zq_posheap.proofs.Nearest.{noted}
use Rattle.zq_posheap.proofs.Places.{seen_there}
use Rattle.zq_posheap.proofs.Scored.{hole_rescored, set_value_at-pairs, text_there}
use Rattle.zq_posheap.proofs.Told.{index_placed, written_seen}
use Rattle.zq_posheap.specs.Moves.{nears_in, pairs_in, pairs_of, shown}
use Rattle.zq_posheap.specs.Order.{near}
use Rattle.zq_posheap.specs.Whole.{entries_map}
use Rattle.zq_posheap.proofs.heap.Heap.replace.Goals as goal

pub index-position-requires : goal.index-position-requires
index-position-requires g c = omega (arith, index_placed c.args.self.now c.requires.whole.linked c.args.index c.requires.within, c.args.self.now.positions.ok.0)

pub index_mut-requires : goal.index_mut-requires
index_mut-requires g c =
    let heap = c.args.self.now in
    let here = read_at heap.positions.items c.args.index _ (index_placed heap c.requires.whole.linked c.args.index c.requires.within) c.index-position.ensures in
    omega (arith, place_within heap.slots.items heap.positions.items (nears_in heap) c.requires.whole.linked c.args.index _ here, heap.slots.ok.0)

pub settle-requires-clause-linked : goal.settle-requires-clause-linked
settle-requires-clause-linked g c =
    let heap = c.args.self.now in
    let score = to_z w128 (of_z w128 c.args.score) in
    let here = read_at heap.positions.items c.args.index _ (index_placed heap c.requires.whole.linked c.args.index c.requires.within) c.index-position.ensures in
    let entry = there_is heap.members.entries c.args.index c.requires.within in
    let written = c.exchange-given.ensures.noted entry.0.1 (mapped_at (λ e. e.1) heap.members.entries c.args.index entry.0 entry.1) in
    rw (written_seen (λ w. near w.score) heap.members c.exchange-given.new.members c.args.index _ written, noted score c.near.result c.near.ensures)
    (rescored heap.slots.items heap.positions.items (nears_in heap) c.requires.whole.linked c.args.index c.index-position.result.now (near score) here)

pub settle-requires-clause-hole : goal.settle-requires-clause-hole
settle-requires-clause-hole g c =
    let heap = c.args.self.now in
    let score = to_z w128 (of_z w128 c.args.score) in
    let new = slot (to_z w64 (of_z w64 c.near.result)) c.args.index in
    let index = c.args.index in
    let position = c.index-position.result.now in
    let here = read_at heap.positions.items index _ (index_placed heap c.requires.whole.linked index c.requires.within) c.index-position.ensures in
    let there = slot_at heap.slots.items heap.positions.items (nears_in heap) c.requires.whole.linked index position here in
    let entry = there_is heap.members.entries index c.requires.within in
    let noted = c.exchange-given.ensures.noted entry.0.1 (mapped_at (λ e. e.1) heap.members.entries index entry.0 entry.1) in
    let pairs = ap (λ m. pairs_of m.entries) noted ∙ set_value_at-pairs heap.members.entries index entry.0 _ entry.1 in
    hole_rescored (pairs_in heap) heap.slots.items _ (length-set heap.slots.items position new) c.requires.whole.ordered
    (pairs_of c.exchange-given.new.members.entries) position index new (score, entry.0.0) pairs
    (λ q s at apart same. apart (one_slot heap.slots.items heap.positions.items (nears_in heap) c.requires.whole.linked q position s there.0 at there.1 (same ∙ sym there.2)))

pub returns-clause-held : goal.returns-clause-held
returns-clause-held g c =
    let heap = c.args.self.now in
    let entry = there_is heap.members.entries c.args.index c.requires.within in
    let noted = c.exchange-given.ensures.noted entry.0.1 (mapped_at (λ e. e.1) heap.members.entries c.args.index entry.0 entry.1) in
    same_entries _ c.settle.new.self c.settle.ensures.moves.kept
    ∙ seen_at_index shown heap.members c.exchange-given.new.members c.args.index entry.0.0 entry.0.1 _ c.exchange-given.ensures.unique entry.1 (ap (λ m. m.entries) noted)
    ∙ (λ k. insert (entries_map heap) (text_there heap.members.entries c.args.index entry.0.0 entry.0.1 entry.1 k) (to_z-of_z w128 c.args.score c.ranges.score k, c.args.value))

pub returns-clause-members : goal.returns-clause-members
returns-clause-members g c =
    let heap = c.args.self.now in
    let entry = there_is heap.members.entries c.args.index c.requires.within in
    let noted = c.exchange-given.ensures.noted entry.0.1 (mapped_at (λ e. e.1) heap.members.entries c.args.index entry.0 entry.1) in
    ap keys c.settle.ensures.moves.kept.members ∙ ap keys noted ∙ keys-with_value_at heap.members c.args.index _

pub returns-clause-room : goal.returns-clause-room
returns-clause-room g c =
    let heap = c.args.self.now in
    let entry = there_is heap.members.entries c.args.index c.requires.within in
    let noted = c.exchange-given.ensures.noted entry.0.1 (mapped_at (λ e. e.1) heap.members.entries c.args.index entry.0 entry.1) in
    let new = slot (to_z w64 (of_z w64 c.near.result)) c.args.index in
    c.settle.ensures.moves.kept.room
    ∙ (λ k. min (ap spare noted k) (min (heap.slots.cap - length-set heap.slots.items c.index-position.result.now new k) (heap.positions.cap - length heap.positions.items)))

pub returns-clause-given : goal.returns-clause-given
returns-clause-given g c =
    let heap = c.args.self.now in
    let entry = there_is heap.members.entries c.args.index c.requires.within in
    let given = c.exchange-given.ensures.given entry.0.1 (mapped_at (λ e. e.1) heap.members.entries c.args.index entry.0 entry.1) in
    ap (option_map (λ e. e.1)) (seen_there heap.members c.args.index entry.0 c.exchange-given.ensures.unique entry.1) ∙ (λ k. Some (sym given k))
