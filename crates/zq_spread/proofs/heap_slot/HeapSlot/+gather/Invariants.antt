use Rattle.std.proofs.Common.{length}
use Rattle.zq_spread.proofs.heap_slot.HeapSlot.+gather.Given as goal

abbrev pub decreases-gather : goal.decreases-gather
decreases-gather l = length l.others.now
