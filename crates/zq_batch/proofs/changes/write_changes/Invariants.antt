use Rattle.std.proofs.Common.{length, take, ◌++◌, ◌≡◌}
use Rattle.zq_batch.specs.Spelling.{changes}
use Rattle.zq_batch.proofs.changes.write_changes.Given as goal

abbrev pub invariant-loop-number : goal.invariant-loop-number
invariant-loop-number l = record {
  written : l.out.items ≡ l.initial.out.items ++ changes l.number 0 l.known l.seen;
  kept : take (length l.initial.out.items) l.out.items ≡ l.initial.out.items;
}
