use Rattle.std.proofs.Common.{drop, length, option_map, ◌≡◌, ◌≤◌}
use Rattle.std.specs.Prelude.{IfSome, slice_get}
use Rattle.zq_commands.specs.FirstPairs.{top_pair}
use Rattle.zq_commands.specs.Lending.{IsHomeAt}
use Rattle.zq_model.specs.Lent.{queues_of}
use Rattle.zq_commands.proofs.first_of_key.top_of.Given as goal

abbrev pub invariant-loop-place : goal.invariant-loop-place
invariant-loop-place g l = record {
  within : l.place ≤ length (g.B.Books.lent l.books).books;
  top : option_map top_pair l.top ≡ slice_get (queues_of (g.B.Books.lent l.books).rule (drop l.place (g.B.Books.lent l.books).books) l.key) 0;
  home : IfSome l.top (λ top. IsHomeAt l.key top.pair.1.now top.place (g.B.Books.lent l.books));
}

abbrev pub decreases-loop-place : goal.decreases-loop-place
decreases-loop-place g l = l.place
