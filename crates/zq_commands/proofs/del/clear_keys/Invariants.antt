use Rattle.std.proofs.Common.{◌≤◌}
use Rattle.zq_commands.proofs.InTurn.{StandsAfter}
use Rattle.zq_commands.specs.Lending.{IsDated, IsLending}
use Rattle.zq_semantics.specs.Plan.{del_part}
use Rattle.zq_words.specs.Words.{views}
use Rattle.zq_commands.proofs.del.clear_keys.Given as goal

abbrev pub invariant-loop-key : goal.invariant-loop-key
invariant-loop-key g l = record {
  stands : StandsAfter del_part l.call.site l.call.stamp (views l.keys) l.key-index (g.B.Books.lent l.initial.books) (g.B.Books.lent l.books) l.counted l.done;
  few : l.counted ≤ l.key-index;
  keeps : g.B.Books.keeps l.initial.books l.books;
  dated : IsDated l.call.stamp (g.B.Books.lent l.books);
  lent : IsLending (g.B.Books.lent l.books);
}
