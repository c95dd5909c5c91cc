use Rattle.std.proofs.Common.{drop, map, take, ◌++◌, ◌≡◌}
use Rattle.zq_commands.specs.Beginning.{begun}
use Rattle.zq_commands.proofs.beginning.begin_all.Given as goal

abbrev pub invariant-loop-book : goal.invariant-loop-book
invariant-loop-book l = l.books ≡ map (begun l.stamp) (take l.book-index l.initial.books) ++ drop l.book-index l.initial.books
