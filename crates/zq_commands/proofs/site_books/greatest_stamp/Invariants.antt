use Rattle.std.proofs.Common.{Some, ℕ, ◌<◌, ◌≡◌, ◌≤◌}
use Rattle.std.specs.Prelude.{slice_get}
use Rattle.zq_model.specs.Books.{Book}
use Rattle.zq_journal.specs.Books.{LAST_STAMP}
use Rattle.zq_model.specs.Sets.{IsIn}
use Rattle.zq_commands.proofs.site_books.greatest_stamp.Given as goal

abbrev pub invariant-loop-place : goal.invariant-loop-place
invariant-loop-place l = record {
  bounded : l.greatest ≤ LAST_STAMP;
  above : (place : ℕ) (book : Book) → place < l.place → slice_get l.books place ≡ Some book → book.stamp ≤ l.greatest;
  among : (book : Book) × IsIn book l.books × (book.stamp ≡ l.greatest);
}
