use Rattle.std.proofs.Common.{drop, map}
use Rattle.zq_model.specs.Sets.{IsIn}
use Rattle.zq_commands.proofs.vec_books.place_of.Given as goal

abbrev pub invariant-loop-place : goal.invariant-loop-place
invariant-loop-place l = IsIn l.heap (map (λ book. book.heap) (drop l.place l.books))
