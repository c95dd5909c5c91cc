use Rattle.std.proofs.Common.{◌++◌, ◌≡◌}
use Rattle.std.specs.String.{string_bytes}
use Rattle.zq_metrics.specs.Page as wanted
use Rattle.zq_metrics.proofs.page.write_each_heap.Given as goal

abbrev pub invariant-loop-heap : goal.invariant-loop-heap
invariant-loop-heap l = string_bytes l.out ≡ string_bytes l.initial.out ++ wanted.heaps_before l.metric l.values l.heap
