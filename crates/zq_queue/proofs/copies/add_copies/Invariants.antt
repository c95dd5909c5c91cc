use Rattle.std.specs.FinMap.{get}
use Rattle.std.specs.Prelude.{map, true, ◌++◌, ◌≡◌}
use Rattle.zq_queue.specs.Built.{IsBuilt}
use Rattle.zq_queue.proofs.copies.add_copies.Given as goal

abbrev pub invariant-loop-member : goal.invariant-loop-member
invariant-loop-member l = record {
  rule : l.copied.rule ≡ l.fn.copied.rule;
  places : l.copied.places ++ map (λ row. row.1) l.member-iterator ≡ l.members.places;
  built : IsBuilt l.members.entries (λ _. true) (get l.members.entries) l.member-iterator l.copied.entries;
}
