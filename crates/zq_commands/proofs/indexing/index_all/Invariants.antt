use Rattle.std.specs.Prelude.{◌≡◌}
use Rattle.zq_commands.proofs.indexing.index_all.Given as goal

abbrev pub invariant-loop-place : goal.invariant-loop-place
invariant-loop-place g l = record {
  same : g.B.Books.lent l.books ≡ g.B.Books.lent l.initial.books;
  keeps : g.B.Books.keeps l.initial.books l.books;
}
