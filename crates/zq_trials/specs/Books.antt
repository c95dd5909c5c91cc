-- Books of cases.

use Rattle.std.specs.Prelude.{◌≡◌}
use Rattle.zq_model.specs.Books.{Book}
use Rattle.zq_model.specs.Rule.{Greatest}

-- the book is one of heap 0 of two, in which a score is the greatest of the values
abbrev pub IsEven : Book → Type 0
IsEven book = (book.heap ≡ 0) × (book.heaps ≡ 2) × (book.rule ≡ Greatest)
