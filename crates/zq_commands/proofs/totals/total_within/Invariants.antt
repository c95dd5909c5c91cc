use Rattle.std.specs.Prelude.{◌<◌, ◌^◌, ◌≡◌}
use Rattle.zq_commands.proofs.Counts.{pairs_in, upto}
use Rattle.zq_semantics.specs.Ranges.{is_within}
use Rattle.zq_commands.proofs.totals.total_within.Given as goal

abbrev pub invariant-loop-place : goal.invariant-loop-place
invariant-loop-place g l = record {
  total : l.total ≡ upto (pairs_in (g.B.Books.lent l.books) l.key (is_within l.min l.max)) (g.B.Books.lent l.books).books l.place;
  small : l.total < 2 ^ 63;
}
