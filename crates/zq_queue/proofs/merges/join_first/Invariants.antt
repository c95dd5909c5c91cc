use Rattle.std.specs.Prelude.{true, ◌≡◌}
use Rattle.zq_queue.specs.Built.{IsBuilt, of_first}
use Rattle.zq_queue.proofs.merges.join_first.Given as goal

abbrev pub invariant-loop-member : goal.invariant-loop-member
invariant-loop-member l = record {
  rule : l.merged.rule ≡ l.fn.merged.rule;
  built : IsBuilt l.members.entries (λ _. true) (of_first l.members.entries l.mine l.theirs l.other.entries) l.member-iterator l.merged.entries;
}
