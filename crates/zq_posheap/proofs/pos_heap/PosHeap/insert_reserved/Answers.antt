use Rattle.std.proofs.Common.{subst, sym}
use Rattle.std.proofs.lemmas.Int.{to_z-of_z}
use Rattle.std.specs.Int.{w128}
use Rattle.std.specs.Prelude.{FitsSigned}
use mir.Val.{of_z, to_z}
use Rattle.zq_posheap.proofs.InRange.{range-insert}
use Rattle.zq_posheap.specs.Members.{AreInRange}
use Rattle.zq_posheap.specs.Whole.{entries_map}
use Rattle.zq_posheap.proofs.pos_heap.PosHeap.insert_reserved.Goals as goal

pub invariant_of-self : goal.invariant_of-self
invariant_of-self g c = (
  c.add.ensures.still_whole,
  subst AreInRange (sym c.add.ensures.held) (range-insert (entries_map c.self.inside.heap) c.self.invariant.1 c.of.result (to_z w128 (of_z w128 c.args.score), c.args.value)
      (subst (FitsSigned w128) (sym (to_z-of_z w128 c.args.score c.ranges.score)) c.ranges.score)),
)
