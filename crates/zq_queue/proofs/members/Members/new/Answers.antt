use Rattle.std.proofs.Common.{subst, sym}
use Rattle.zq_queue.proofs.Fews.{few_none}
use Rattle.zq_queue.specs.Few.{AreFew}
use Rattle.zq_queue.proofs.members.Members.new.Goals as goal

pub invariant_of-result : goal.invariant_of-result
invariant_of-result c = subst AreFew (sym c.new.ensures.items) few_none
