use Rattle.std.proofs.Common.{Some, ℕ, ◌<◌, ◌≡◌, ◌≢◌}
use Rattle.std.specs.Prelude.{slice_get}
use Rattle.zq_model.specs.Books.{Book}
use Rattle.zq_spread.proofs.lending_all.place_of.Given as goal
use Rattle.zq_spread.specs.Several.{books_of, helds_of}

abbrev pub invariant-loop-place : goal.invariant-loop-place
invariant-loop-place l = (place : ℕ) (book : Book) → place < l.place → slice_get (books_of (helds_of l.holds)) place ≡ Some book → book.heap ≢ l.heap
