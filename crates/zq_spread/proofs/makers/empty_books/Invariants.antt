use Rattle.zq_dots.specs.Rule.{rule_of}
use Rattle.std.proofs.Common.{Some, length, ℕ, ◌≡◌}
use Rattle.std.specs.Prelude.{slice_get}
use Rattle.zq_model.specs.Books.{Book}
use Rattle.zq_journal.specs.Limits.{limits_of}
use Rattle.zq_spread.specs.Makers.{empty_book}
use Rattle.zq_spread.proofs.makers.empty_books.Given as goal

abbrev pub invariant-loop-heap : goal.invariant-loop-heap
invariant-loop-heap l = record {
  number : length l.books.items ≡ l.heap;
  empty : (h : ℕ) (book : Book) → slice_get l.books.items h ≡ Some book → book ≡ empty_book (limits_of l.limits) (rule_of l.rule) l.heaps h;
}
