use Rattle.std.specs.FinMap.{get}
use Rattle.std.specs.Prelude.{drop, true, ◌++◌, ◌≡◌}
use Rattle.zq_dots.specs.Rule.{rule_of}
use Rattle.zq_queue.specs.Built.{IsBuilt}
use Rattle.zq_queue.specs.Few.{entries_by, names_in, rows_of}
use Rattle.zq_queue.specs.Queued.{AreScored, entries_of}
use Rattle.zq_queue.proofs.forms.add_copies.Given as goal

abbrev pub invariant-loop-member : goal.invariant-loop-member
invariant-loop-member l = record {
  scored : AreScored (rule_of l.rule) l.many.held;
  places : l.many.places ++ names_in (drop l.member-index l.list) ≡ names_in l.list;
  built : IsBuilt (entries_by l.list) (λ _. true) (get (entries_by l.list)) (rows_of (drop l.member-index l.list)) (entries_of l.many.held);
}
