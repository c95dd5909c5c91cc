use Rattle.std.proofs.Common.{List, map, ℕ, ◌≤◌}
use Rattle.zq_commands.proofs.InTurn.{StandsAfter}
use Rattle.zq_commands.specs.Lending.{HasBook, IsDated, IsLending}
use Rattle.zq_semantics.specs.Plan.{zadd_part}
use Rattle.zq_words.specs.Shown.{pair_shown}
use Rattle.zq_commands.proofs.zadd.put_pairs.Given as goal

abbrev pub invariant-loop-pair : goal.invariant-loop-pair
invariant-loop-pair g l = record {
  stands : StandsAfter (zadd_part l.key l.flags) l.call.site l.call.stamp (map pair_shown l.pairs) l.pair-index (g.B.Books.lent l.initial.books) (g.B.Books.lent l.books) l.counted l.done;
  few : l.counted ≤ l.pair-index;
  done : l.done ≤ l.pair-index;
  keeps : g.B.Books.keeps l.initial.books l.books;
  dated : IsDated l.call.stamp (g.B.Books.lent l.books);
  lent : IsLending (g.B.Books.lent l.books);
  homes : (k m : List ℕ) → HasBook k m (g.B.Books.lent l.initial.books) → HasBook k m (g.B.Books.lent l.books);
}
