use Rattle.std.specs.Prelude.{◌<◌, ◌^◌, ◌≡◌}
use Rattle.zq_commands.proofs.Counts.{pairs_in, upto}
use Rattle.zq_model.specs.Readings.{is_before}
use Rattle.zq_commands.proofs.totals.total_before.Given as goal

abbrev pub invariant-loop-place : goal.invariant-loop-place
invariant-loop-place g l = record {
  total : l.total ≡ upto (pairs_in (g.B.Books.lent l.books) l.key (λ pair. is_before pair (l.score, l.member))) (g.B.Books.lent l.books).books l.place;
  small : l.total < 2 ^ 63;
}
