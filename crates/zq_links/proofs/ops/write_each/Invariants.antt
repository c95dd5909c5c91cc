use Rattle.std.proofs.Common.{map, take, ◌++◌, ◌≡◌}
use Rattle.std.specs.List.{flat_map}
use Rattle.zq_links.specs.Spelling.{newest_op, op_bytes}
use Rattle.zq_links.proofs.ops.write_each.Given as goal

abbrev pub invariant-loop-op : goal.invariant-loop-op
invariant-loop-op l = l.out.items ≡ l.initial.out.items ++ flat_map op_bytes (map newest_op (take l.op-index l.ops))
