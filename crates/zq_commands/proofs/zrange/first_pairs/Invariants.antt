use Rattle.std.proofs.Common.{drop, length, map, option_map, take, ◌≡◌, ◌≤◌}
use Rattle.std.specs.Prelude.{filter}
use Rattle.zq_commands.specs.FirstPairs.{lent_pair}
use Rattle.zq_commands.specs.Starts.{is_read}
use Rattle.zq_model.specs.Lent.{queues_of}
use Rattle.zq_semantics.specs.Ranges.{turned_if}
use Rattle.zq_commands.proofs.zrange.first_pairs.Given as goal

abbrev pub invariant-loop-place : goal.invariant-loop-place
invariant-loop-place g l = record {
  within : l.place ≤ length (g.B.Books.lent l.books).books;
  pairs : map lent_pair l.pairs.items ≡
      take l.most (filter (is_read l.is_turned (option_map lent_pair l.first) l.section.min l.section.max)
      (turned_if l.is_turned (queues_of (g.B.Books.lent l.books).rule (drop l.place (g.B.Books.lent l.books).books) l.key)));
}

abbrev pub decreases-loop-place : goal.decreases-loop-place
decreases-loop-place g l = l.place
