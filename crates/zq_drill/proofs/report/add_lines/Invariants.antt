use Rattle.std.proofs.Common.{map, take, ◌++◌, ◌≡◌}
use Rattle.std.specs.List.{flat_map}
use Rattle.zq_drill.specs.Lists.{listed}
use Rattle.zq_drill.specs.Report.{line_of}
use Rattle.zq_drill.proofs.report.add_lines.Given as goal

abbrev pub invariant-loop-scored : goal.invariant-loop-scored
invariant-loop-scored l = l.text.items ≡ l.initial.text.items ++ flat_map line_of (map listed (take l.scored-index l.list))
