use Rattle.std.proofs.Common.{ap, arith, sym, ◌∙◌}
use Rattle.std.specs.FinMap.{get, remove}
use Rattle.std.specs.Prelude.{[], get_or, option_map, slice_get, swap_remove, ◌-◌}
use Rattle.indexmap.specs.IndexMap.{keys}
use Rattle.zq_posheap.proofs.Linked.{place_within, slot_at}
use Rattle.zq_posheap.proofs.Lists.{read_at}
use Rattle.zq_posheap.proofs.Moving.{long, same_entries}
use Rattle.zq_posheap.proofs.Ordered.{turned_total}
use Rattle.zq_posheap.proofs.Sifting.{hole_at_removal}
use Rattle.zq_posheap.proofs.Told.{index_placed}
use Rattle.zq_posheap.specs.Moves.{queue_of, nears_in, shown}
use Rattle.zq_posheap.specs.Order.{turned_cmp}
use Rattle.zq_posheap.proofs.heap.Heap.take_out.Goals as goal

pub index-position-requires : goal.index-position-requires
index-position-requires g c = omega (arith, index_placed c.args.self.now c.requires.whole.linked c.args.index c.requires.within, c.args.self.now.positions.ok.0)

pub move_last-requires-clause-within : goal.move_last-requires-clause-within
move_last-requires-clause-within g c =
    let heap = c.args.self.now in
    let here = read_at heap.positions.items c.args.index _ (index_placed heap c.requires.whole.linked c.args.index c.requires.within) c.index-position.ensures in
    place_within heap.slots.items heap.positions.items (nears_in heap) c.requires.whole.linked c.args.index _ here

pub settle-requires-clause-hole : goal.settle-requires-clause-hole
settle-requires-clause-hole g c =
    let old = c.args.self.now in
    let moved = c.move_last.ensures.moves.kept in
    let shorter = c.drop_last.ensures.len ∙ moved.len in
    hole_at_removal turned_cmp turned_total (queue_of old) (queue_of c.drop_last.new.self) c.index-position.result.now _
    (shorter ∙ sym (long old))
    (λ m d apart within. c.drop_last.ensures.others m d within ∙ c.move_last.ensures.others m d apart (omega (arith, within, shorter)))
    c.requires.whole.ordered

pub returns-clause-given : goal.returns-clause-given
returns-clause-given g c =
    let old = c.args.self.now in
    let moved = c.move_last.ensures.moves.kept in
    let here = read_at old.positions.items c.args.index _ (index_placed old c.requires.whole.linked c.args.index c.requires.within) c.index-position.ensures in
    let s = slot_at old.slots.items old.positions.items (nears_in old) c.requires.whole.linked c.args.index _ here in
    let last = ap (λ n. slice_get c.move_last.new.self.slots.items (n - 1)) moved.len ∙ c.move_last.ensures.last ∙ s.1 in
    let given = ap (option_map shown) (sym c.unwrap-given.ensures) ∙ c.drop_last.ensures.given s.0 last in
    sym (given ∙ (λ k. get (same_entries old c.move_last.new.self moved k) (get_or (keys (moved.members k)) (s.2 k) [])))

pub returns-clause-held : goal.returns-clause-held
returns-clause-held g c =
    let old = c.args.self.now in
    let moved = c.move_last.ensures.moves.kept in
    let here = read_at old.positions.items c.args.index _ (index_placed old c.requires.whole.linked c.args.index c.requires.within) c.index-position.ensures in
    let s = slot_at old.slots.items old.positions.items (nears_in old) c.requires.whole.linked c.args.index _ here in
    let last = ap (λ n. slice_get c.move_last.new.self.slots.items (n - 1)) moved.len ∙ c.move_last.ensures.last ∙ s.1 in
    same_entries _ c.settle.new.self c.settle.ensures.moves.kept ∙ c.drop_last.ensures.held s.0 last
    ∙ (λ k. remove (same_entries old c.move_last.new.self moved k) (get_or (keys (moved.members k)) (s.2 k) []))

pub returns-clause-places : goal.returns-clause-places
returns-clause-places g c =
    let old = c.args.self.now in
    let moved = c.move_last.ensures.moves.kept in
    let here = read_at old.positions.items c.args.index _ (index_placed old c.requires.whole.linked c.args.index c.requires.within) c.index-position.ensures in
    let s = slot_at old.slots.items old.positions.items (nears_in old) c.requires.whole.linked c.args.index _ here in
    let last = ap (λ n. slice_get c.move_last.new.self.slots.items (n - 1)) moved.len ∙ c.move_last.ensures.last ∙ s.1 in
    ap keys c.settle.ensures.moves.kept.members ∙ c.drop_last.ensures.places s.0 last ∙ (λ k. swap_remove (keys (moved.members k)) (s.2 k) [])
