use Rattle.std.proofs.Common.{List, ℕ, ◌≤◌}
use Rattle.zq_commands.proofs.InTurn.{StandsAfter}
use Rattle.zq_commands.specs.Lending.{HasBook, IsDated, IsLending}
use Rattle.zq_semantics.specs.Plan.{zrem_part}
use Rattle.zq_words.specs.Words.{views}
use Rattle.zq_commands.proofs.dropping.drop_each.Given as goal

abbrev pub invariant-loop-member : goal.invariant-loop-member
invariant-loop-member g l = record {
  stands : StandsAfter (zrem_part l.key) l.call.site l.call.stamp (views l.members) l.member-index (g.B.Books.lent l.initial.books) (g.B.Books.lent l.books) l.done l.done;
  few : l.done ≤ l.member-index;
  keeps : g.B.Books.keeps l.initial.books l.books;
  dated : IsDated l.call.stamp (g.B.Books.lent l.books);
  lent : IsLending (g.B.Books.lent l.books);
  homes : (k m : List ℕ) → HasBook k m (g.B.Books.lent l.initial.books) → HasBook k m (g.B.Books.lent l.books);
}
