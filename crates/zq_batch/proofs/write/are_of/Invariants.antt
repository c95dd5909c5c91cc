use Rattle.std.proofs.Common.{take}
use Rattle.std.specs.List.{All}
use Rattle.zq_batch.specs.Batch.{IsOfHeap}
use Rattle.zq_batch.proofs.write.are_of.Given as goal

abbrev pub invariant-loop-view : goal.invariant-loop-view
invariant-loop-view l = All (IsOfHeap l.heap.heaps l.heap.heap) (take l.view-index l.views)
