use Rattle.std.proofs.Common.{ap, subst, sym, ◌∙◌}
use Rattle.std.proofs.lemmas.Int.{to_z-of_z}
use Rattle.std.specs.FinMap.{get, insert}
use Rattle.std.specs.Int.{w128}
use Rattle.std.specs.Prelude.{FitsSigned, option_map, slice_get}
use mir.Val.{of_z, to_z}
use Rattle.zq_posheap.proofs.InRange.{range-insert}
use Rattle.zq_posheap.proofs.Places.{member_there}
use Rattle.zq_posheap.specs.Members.{AreInRange}
use Rattle.zq_posheap.specs.Moves.{member_of}
use Rattle.zq_posheap.specs.Whole.{entries_map}
use Rattle.zq_posheap.proofs.pos_heap.PosHeap.replace_at.Goals as goal

pub invariant_of-self : goal.invariant_of-self
invariant_of-self g c =
    let heap = c.self.inside.heap in (
      c.replace.ensures.still_whole,
      subst AreInRange (sym c.replace.ensures.held) (range-insert (entries_map heap) c.self.invariant.1 (member_of heap c.args.place.index) (to_z w128 (of_z w128 c.args.score), c.args.value)
          (subst (FitsSigned w128) (sym (to_z-of_z w128 c.args.score c.ranges.score)) c.ranges.score)),
    )

pub returns-clause-given : goal.returns-clause-given
returns-clause-given g c = λ member place.
    let heap = c.self.inside.heap in
    let same = member_there heap.members.entries c.args.place.index member (ap (λ m. slice_get m.places c.args.place.index) c.self.view_is ∙ place) in
    (λ k. option_map (λ e. e.1) (get ((sym c.self.view_is) k).held (sym same k))) ∙ c.replace.ensures.given

pub returns-clause-held : goal.returns-clause-held
returns-clause-held g c = λ member place.
    let heap = c.self.inside.heap in
    let same = member_there heap.members.entries c.args.place.index member (ap (λ m. slice_get m.places c.args.place.index) c.self.view_is ∙ place) in
    c.replace.ensures.held ∙ (λ k. insert (c.self.view_is k).held (same k) (to_z-of_z w128 c.args.score c.ranges.score k, c.args.value))
