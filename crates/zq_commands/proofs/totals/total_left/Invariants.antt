use Rattle.std.proofs.Common.{option_map}
use Rattle.std.specs.Prelude.{◌<◌, ◌^◌, ◌≡◌}
use Rattle.zq_commands.proofs.Counts.{pairs_in, upto}
use Rattle.zq_commands.specs.FirstPairs.{lent_pair}
use Rattle.zq_commands.specs.Starts.{is_left}
use Rattle.zq_commands.proofs.totals.total_left.Given as goal

abbrev pub invariant-loop-place : goal.invariant-loop-place
invariant-loop-place g l = record {
  total : l.total ≡ upto (pairs_in (g.B.Books.lent l.books) l.key (is_left l.is_turned (option_map lent_pair l.first) l.section.min l.section.max)) (g.B.Books.lent l.books).books l.place;
  small : l.total < 2 ^ 63;
}
