use Rattle.std.proofs.Common.{ap, arith, sym, ◌∙◌}
use Rattle.std.proofs.lemmas.List.{length-set}
use Rattle.std.specs.Prelude.{length, map, slice_set, ◌≢◌}
use Rattle.zq_posheap.proofs.Holes.{linked_as}
use Rattle.zq_posheap.proofs.Linked.{index_within, one_slot, swapped}
use Rattle.zq_posheap.proofs.Lists.{map-swap, read_at, set_either, swap-set}
use Rattle.zq_posheap.proofs.Moving.{goes_on}
use Rattle.zq_posheap.specs.Moves.{nears_in, pairs_in, pairs_of}
use Rattle.zq_posheap.specs.Order.{scored_at}
use Rattle.zq_posheap.proofs.heap.Heap.swap.Goals as goal

pub put-requires-clause-known : goal.put-requires-clause-known
put-requires-clause-known g c =
    let heap = c.args.self.now in
    let y = read_at heap.slots.items c.args.b c.index-2.result.now c.requires.b_within c.index-2.ensures in
    index_within heap.slots.items heap.positions.items (nears_in heap) c.requires.linked c.args.b _ y

pub put-requires-2-clause-known : goal.put-requires-2-clause-known
put-requires-2-clause-known g c =
    let heap = c.args.self.now in
    let x = read_at heap.slots.items c.args.a c.index.result.now c.requires.a_within c.index.ensures in
    omega (
      arith,
      index_within heap.slots.items heap.positions.items (nears_in heap) c.requires.linked c.args.a _ x,
      ap length c.put.ensures.positions,
      length-set heap.positions.items c.index-2.result.now.index c.args.a,
    )

pub returns-clause-slots : goal.returns-clause-slots
returns-clause-slots g c =
    let slots = c.args.self.now.slots.items in
    let x = read_at slots c.args.a c.index.result.now c.requires.a_within c.index.ensures in
    let y = read_at slots c.args.b c.index-2.result.now c.requires.b_within c.index-2.ensures in
    c.put-2.ensures.slots ∙ ap (λ xs. slice_set xs c.args.b c.index.result.now) c.put.ensures.slots ∙ sym (swap-set slots c.args.a c.args.b _ _ x y)

pub returns-clause-queue : goal.returns-clause-queue
returns-clause-queue g c =
    let heap = c.args.self.now in
    let slots = heap.slots.items in
    let x = read_at slots c.args.a c.index.result.now c.requires.a_within c.index.ensures in
    let y = read_at slots c.args.b c.index-2.result.now c.requires.b_within c.index-2.ensures in
    let members = c.put-2.ensures.kept.members ∙ c.put.ensures.kept.members in
    let turned = c.put-2.ensures.slots ∙ ap (λ xs. slice_set xs c.args.b c.index.result.now) c.put.ensures.slots ∙ sym (swap-set slots c.args.a c.args.b _ _ x y) in
    (λ k. map (scored_at (pairs_of (members k).entries)) (turned k)) ∙ map-swap (scored_at (pairs_in heap)) slots c.args.a c.args.b _ _ x y

pub returns-clause-moves : goal.returns-clause-moves
returns-clause-moves g c =
    let heap = c.args.self.now in
    let slots = heap.slots.items in
    let positions = heap.positions.items in
    let a = c.args.a in
    let b = c.args.b in
    let left = c.index.result.now in
    let right = c.index-2.result.now in
    let x = read_at slots a left c.requires.a_within c.index.ensures in
    let y = read_at slots b right c.requires.b_within c.index-2.ensures in
    let others : left.index ≢ right.index = λ e. c.requires.apart (one_slot slots positions (nears_in heap) c.requires.linked a b left right x y e) in
    let kept = goes_on heap c.put.new.self c.put-2.new.self c.put.ensures.kept c.put-2.ensures.kept in
    record {
      linked = linked_as heap c.put-2.new.self _ _ kept (c.put-2.ensures.slots ∙ ap (λ xs. slice_set xs b left) c.put.ensures.slots)
          (c.put-2.ensures.positions ∙ ap (λ ys. slice_set ys left.index b) c.put.ensures.positions ∙ sym (set_either positions left.index right.index b a others))
          (swapped slots positions (nears_in heap) c.requires.linked a b left right x y c.requires.apart);
      kept = kept;
    }
