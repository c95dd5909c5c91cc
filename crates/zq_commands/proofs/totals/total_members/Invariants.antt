use Rattle.std.specs.Prelude.{◌<◌, ◌^◌, ◌≡◌}
use Rattle.zq_commands.proofs.Counts.{members_in, upto}
use Rattle.zq_commands.proofs.totals.total_members.Given as goal

abbrev pub invariant-loop-place : goal.invariant-loop-place
invariant-loop-place g l = record {
  total : l.total ≡ upto (members_in (g.B.Books.lent l.books) l.key) (g.B.Books.lent l.books).books l.place;
  small : l.total < 2 ^ 63;
}
