use Rattle.std.proofs.Common.{take, ◌++◌, ◌≡◌}
use Rattle.std.specs.List.{flat_map}
use Rattle.zq_inspect.specs.Report.{heap_line}
use Rattle.zq_inspect.proofs.reporting.add_heaps.Given as goal

abbrev pub invariant-loop-stage : goal.invariant-loop-stage
invariant-loop-stage l =
    l.text.items ≡ l.initial.text.items ++ flat_map (heap_line l.site) (take l.stage-index l.stages)
