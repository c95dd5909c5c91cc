use Rattle.std.proofs.Common.{ap, subst, sym, ◌∙◌}
use Rattle.std.proofs.lemmas.Int.{to_z-of_z}
use Rattle.std.specs.FinMap.{get, remove}
use Rattle.std.specs.Int.{w128}
use Rattle.std.specs.Prelude.{Some, slice_get}
use Rattle.zq_posheap.proofs.InRange.{range-remove}
use Rattle.zq_posheap.proofs.Places.{member_there}
use Rattle.zq_posheap.specs.Members.{AreInRange}
use Rattle.zq_posheap.specs.Moves.{member_of, shown}
use Rattle.zq_posheap.specs.Whole.{entries_map}
use Rattle.zq_posheap.proofs.pos_heap.PosHeap.remove_at.Goals as goal

pub invariant_of-self : goal.invariant_of-self
invariant_of-self g c =
    let heap = c.self.inside.heap in (
      c.take_out-held.ensures.still_whole,
      subst AreInRange (sym c.take_out-held.ensures.held) (range-remove (entries_map heap) c.self.invariant.1 (member_of heap c.args.place.index)),
    )

pub returns-clause-given : goal.returns-clause-given
returns-clause-given g c = λ member place.
    let heap = c.self.inside.heap in
    let held = c.take_out-held.result in
    let same = member_there heap.members.entries c.args.place.index member (ap (λ m. slice_get m.places c.args.place.index) c.self.view_is ∙ place) in
    let fits = c.self.invariant.1 (member_of heap c.args.place.index) (shown held) c.take_out-held.ensures.given in
    (λ k. get ((sym c.self.view_is) k).held (sym same k)) ∙ c.take_out-held.ensures.given ∙ (λ k. Some (sym (to_z-of_z w128 held.score fits) k, held.value))

pub returns-clause-held : goal.returns-clause-held
returns-clause-held g c = λ member place.
    let heap = c.self.inside.heap in
    let same = member_there heap.members.entries c.args.place.index member (ap (λ m. slice_get m.places c.args.place.index) c.self.view_is ∙ place) in
    c.take_out-held.ensures.held ∙ (λ k. remove (c.self.view_is k).held (same k))
