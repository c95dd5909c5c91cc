use Rattle.std.proofs.Common.{◌-◌, ◌≤◌}
use Rattle.zq_commands.proofs.ClearedKeys.{DroppedAfter}
use Rattle.zq_commands.specs.Lending.{IsDated, IsLending}
use Rattle.zq_commands.proofs.del.clear_key.Given as goal

abbrev pub invariant-loop-done : goal.invariant-loop-done
invariant-loop-done g l = record {
  low : l.before ≤ l.done;
  dropped : DroppedAfter l.call.site l.call.stamp l.key (g.B.Books.lent l.initial.books) (g.B.Books.lent l.books) (l.done - l.before);
  lent : IsLending (g.B.Books.lent l.books);
  dated : IsDated l.call.stamp (g.B.Books.lent l.books);
  keeps : g.B.Books.keeps l.initial.books l.books;
}

abbrev pub decreases-loop-done : goal.decreases-loop-done
decreases-loop-done g l = 18446744073709551615 - l.done
