use Rattle.std.specs.Prelude.{◌≡◌}
use Rattle.zq_commands.proofs.indexing.index_each.Given as goal

abbrev pub invariant-loop-key : goal.invariant-loop-key
invariant-loop-key g l = record {
  same : g.B.Books.lent l.books ≡ g.B.Books.lent l.initial.books;
  keeps : g.B.Books.keeps l.initial.books l.books;
}
