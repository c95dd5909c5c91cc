use Rattle.std.proofs.Common.{subst, sym}
use Rattle.zq_model.specs.Image.{Entry}
use Rattle.zq_posheap.proofs.InRange.{range-empty}
use Rattle.zq_posheap.specs.Members.{AreInRange}
use Rattle.zq_queue.proofs.indexed.Indexed.with_hasher.Goals as goal

pub invariant_of-result : goal.invariant_of-result
invariant_of-result c = (tt, subst AreInRange (sym c.with_hasher.ensures.held) (range-empty {V = Entry}))
