use Rattle.std.proofs.Common.{arith, refl}
use Rattle.zq_ranked.proofs.Sorted.{none_ranked}
use Rattle.zq_ranked.proofs.ranked.Ranked.new.Goals as goal

pub invariant_of-result : goal.invariant_of-result
invariant_of-result c = rw (c.leaf.ensures, c.new.ensures.items) (none_ranked, refl, record { low = omega arith; filled = λ h. absurd (omega arith) })
