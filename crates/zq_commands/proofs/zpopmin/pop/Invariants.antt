use Rattle.std.proofs.Common.{IsTrue, map, ◌-◌, ◌≤◌}
use Rattle.zq_commands.proofs.Popped.{PoppedAfter}
use Rattle.zq_commands.specs.Arrays.{are_writable}
use Rattle.zq_commands.specs.Lending.{IsDated, IsLending}
use Rattle.zq_resp.specs.Reply.{reply_bytes}
use Rattle.zq_commands.proofs.zpopmin.pop.Given as goal

abbrev pub invariant-loop-done : goal.invariant-loop-done
invariant-loop-done g l = record {
  popped : PoppedAfter l.call.site l.call.stamp l.key (g.B.Books.lent l.initial.books) (g.B.Books.lent l.books) l.done (map reply_bytes l.parts.items);
  most : l.done ≤ l.count;
  lent : IsLending (g.B.Books.lent l.books);
  dated : IsDated l.call.stamp (g.B.Books.lent l.books);
  keeps : g.B.Books.keeps l.initial.books l.books;
  writable : IsTrue (are_writable l.parts.items);
}

abbrev pub decreases-loop-done : goal.decreases-loop-done
decreases-loop-done g l = l.count - l.done
