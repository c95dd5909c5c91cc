use Rattle.std.proofs.Common.{take, ◌++◌, ◌≡◌}
use Rattle.std.specs.List.{flat_map}
use Rattle.zq_entries.specs.Spelling.{part_bytes}
use Rattle.zq_entries.proofs.round.write_each.Given as goal

abbrev pub invariant-loop-batch : goal.invariant-loop-batch
invariant-loop-batch l = l.out.items ≡ l.initial.out.items ++ flat_map part_bytes (take l.batch-index l.batches)
