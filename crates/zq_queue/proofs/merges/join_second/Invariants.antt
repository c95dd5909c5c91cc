use Rattle.std.specs.Prelude.{◌≡◌}
use Rattle.zq_queue.specs.Built.{IsBuilt, only_second}
use Rattle.zq_queue.specs.Entries.{entry_joined}
use Rattle.zq_queue.proofs.merges.join_second.Given as goal

abbrev pub invariant-loop-member : goal.invariant-loop-member
invariant-loop-member l = record {
  rule : l.merged.rule ≡ l.fn.merged.rule;
  built : IsBuilt l.members.entries (only_second l.first.entries) (entry_joined l.mine l.theirs l.first.entries l.members.entries) l.member-iterator l.merged.entries;
}
