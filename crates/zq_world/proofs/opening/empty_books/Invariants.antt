use Rattle.std.proofs.Common.{Some, length, ℕ, ◌≡◌}
use Rattle.std.specs.Prelude.{slice_get}
use Rattle.zq_dots.specs.Rule.{rule_of}
use Rattle.zq_model.specs.Books.{Book}
use Rattle.zq_semantics.specs.Books.{IsBookOf}
use Rattle.zq_semantics.specs.Runs as runs
use Rattle.zq_world.proofs.opening.empty_books.Given as goal

abbrev pub invariant-loop-heap : goal.invariant-loop-heap
invariant-loop-heap l = record {
  number : length l.books.items ≡ l.heap;
  each : (site h : ℕ) (b : Book) → slice_get l.books.items h ≡ Some b → IsBookOf (rule_of l.rule) l.heaps runs.opening site h b;
}
