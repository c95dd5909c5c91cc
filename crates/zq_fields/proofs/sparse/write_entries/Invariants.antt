use Rattle.std.proofs.Common.{◌≡◌, ◌++◌, length, take}
use Rattle.zq_fields.specs.Spelling.{entries}
use Rattle.zq_fields.proofs.sparse.write_entries.Given as goal

abbrev pub invariant-loop-number : goal.invariant-loop-number
invariant-loop-number l = record {
  written : l.out.items ≡ l.initial.out.items ++ entries 0 (take l.number l.vector);
  kept : take (length l.initial.out.items) l.out.items ≡ l.initial.out.items;
}
