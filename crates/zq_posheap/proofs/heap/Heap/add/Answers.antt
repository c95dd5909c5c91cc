use Rattle.std.proofs.Common.{ap, arith, ◌∙◌}
use Rattle.std.proofs.lemmas.Int.{to_z-of_z}
use Rattle.std.proofs.lemmas.List.{length-map, map-append}
use Rattle.std.specs.FinMap.{insert}
use mir.Val.{of_z, to_z}
use Rattle.std.specs.Int.{w128, w64}
use Rattle.std.specs.Prelude.{[], map, ◌∷◌}
use Rattle.indexmap.proofs.CallerLemmas.{insert_entry-new}
use Rattle.zq_posheap.proofs.Entries.{inserted, no_entry}
use Rattle.zq_posheap.proofs.Linked.{added}
use Rattle.zq_posheap.proofs.Moving.{same_entries}
use Rattle.zq_posheap.proofs.Nearest.{noted}
use Rattle.zq_posheap.proofs.Results.{when_ok}
use Rattle.zq_posheap.proofs.Scored.{hole_added}
use Rattle.zq_posheap.proofs.Told.{held, known_within, one_more_seen}
use Rattle.zq_posheap.specs.Moves.{nears_in, pairs_in, pairs_of, shown}
use Rattle.zq_posheap.specs.Order.{Scored, near, same_key}
use Rattle.zq_posheap.specs.Whole.{entries_map}
use Rattle.indexmap.specs.IndexMap.{keys}
use Rattle.zq_posheap.proofs.heap.Heap.add.Goals as goal

pub push_reserved-requires : goal.push_reserved-requires
push_reserved-requires g c = omega (arith, c.requires.room, c.args.self.now.positions.ok.0)

pub push_reserved-requires-2 : goal.push_reserved-requires-2
push_reserved-requires-2 g c = omega (arith, c.requires.room, c.args.self.now.slots.ok.0)

pub settle-requires-clause-linked : goal.settle-requires-clause-linked
settle-requires-clause-linked g c =
    let heap = c.args.self.now in
    let score = to_z w128 (of_z w128 c.args.score) in
    let more = when_ok c.insert.result (c.insert.ensures.succeeds (omega (arith, c.requires.room))) c.insert.ensures.entries
    ∙ insert_entry-new same_key heap.members c.args.member (held score c.args.value) (no_entry shown heap.members.entries c.args.member c.requires.absent) in
    rw (c.push_reserved-2.ensures.items, c.push_reserved.ensures.items, one_more_seen (λ w. near w.score) heap.members.entries c.insert.new.self.entries c.args.member _ more, noted score c.near.result c.near.ensures)
    (added heap.slots.items heap.positions.items (nears_in heap) c.requires.whole.linked c.len-last.result (near score) (omega (arith, c.len-last.ensures, heap.slots.ok.0)))

pub settle-requires-clause-hole : goal.settle-requires-clause-hole
settle-requires-clause-hole g c =
    let heap = c.args.self.now in
    let score = to_z w128 (of_z w128 c.args.score) in
    let more = when_ok c.insert.result (c.insert.ensures.succeeds (omega (arith, c.requires.room))) c.insert.ensures.entries
    ∙ insert_entry-new same_key heap.members c.args.member (held score c.args.value) (no_entry shown heap.members.entries c.args.member c.requires.absent) in
    let pairs = ap pairs_of more ∙ map-append (λ e. (e.1.score, e.0)) heap.members.entries ((c.args.member, held score c.args.value) ∷ []) in
    hole_added (pairs_in heap) heap.slots.items c.len-last.result (omega (arith, c.len-last.ensures, heap.slots.ok.0)) c.requires.whole.ordered
    (pairs_of c.insert.new.self.entries) c.push_reserved-2.new.self.items (score, c.args.member) (to_z w64 (of_z w64 c.near.result)) pairs c.push_reserved-2.ensures.items
    (λ p x here. omega (arith, known_within heap x (c.requires.whole.linked.near p x here), length-map {B = Scored} heap.members.entries (λ e. (e.1.score, e.0))))

pub returns-clause-held : goal.returns-clause-held
returns-clause-held g c =
    let heap = c.args.self.now in
    let updates = when_ok c.insert.result (c.insert.ensures.succeeds (omega (arith, c.requires.room))) c.insert.ensures.updates in
    same_entries _ c.settle.new.self c.settle.ensures.moves.kept
    ∙ inserted shown heap.members c.insert.new.self c.args.member (held (to_z w128 (of_z w128 c.args.score)) c.args.value) updates
    ∙ (λ k. insert (entries_map heap) c.args.member (to_z-of_z w128 c.args.score c.ranges.score k, c.args.value))

pub returns-clause-less_room : goal.returns-clause-less_room
returns-clause-less_room g c = omega (
  arith,
  c.settle.ensures.moves.kept.room,
  c.insert.ensures.spare,
  c.push_reserved.ensures.capacity,
  c.push_reserved.ensures.len,
  c.push_reserved.new.self.ok.0,
  c.push_reserved-2.ensures.capacity,
  c.push_reserved-2.ensures.len,
  c.push_reserved-2.new.self.ok.0,
  c.args.self.now.slots.ok.0,
  c.args.self.now.positions.ok.0,
)

pub returns-clause-places : goal.returns-clause-places
returns-clause-places g c =
    let heap = c.args.self.now in
    let score = to_z w128 (of_z w128 c.args.score) in
    let more = when_ok c.insert.result (c.insert.ensures.succeeds (omega (arith, c.requires.room))) c.insert.ensures.entries
    ∙ insert_entry-new same_key heap.members c.args.member (held score c.args.value) (no_entry shown heap.members.entries c.args.member c.requires.absent) in
    ap keys c.settle.ensures.moves.kept.members ∙ ap (map (λ e. e.0)) more ∙ map-append (λ e. e.0) heap.members.entries ((c.args.member, held score c.args.value) ∷ [])
