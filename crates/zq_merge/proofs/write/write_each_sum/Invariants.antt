use Rattle.std.proofs.Common.{take, ◌++◌, ◌≡◌}
use Rattle.std.specs.List.{flat_map}
use Rattle.zq_merge.specs.Spelling.{sum_bytes}
use Rattle.zq_merge.proofs.write.write_each_sum.Given as goal

abbrev pub invariant-loop-item : goal.invariant-loop-item
invariant-loop-item l = l.out.items ≡ l.initial.out.items ++ flat_map sum_bytes (take l.item-index l.sums)
