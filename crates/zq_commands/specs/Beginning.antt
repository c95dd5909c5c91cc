-- How a call begins with the books of a site.

use Rattle.std.specs.Prelude.{List, ℕ, ◌+◌, ◌<◌, ◌≡◌}
use Rattle.zq_commands.specs.Lending.{IsDated}
use Rattle.zq_commands.specs.VecBooks.{lending_of}
use Rattle.zq_model.specs.Books.{Book}
pub use Rattle.zq_model.specs.Reach.{begun}
use Rattle.zq_model.specs.Sets.{IsIn}

-- the stamp after the greatest of the books'
pub record IsNextStamp (books : List Book) (next : ℕ) : Type 0 where
  pub dated : IsDated next (lending_of books)
  pub above : (book : Book) → IsIn book books → book.stamp < next
  pub after : (book : Book) × IsIn book books × (book.stamp + 1 ≡ next)

-- a book of this stamp is among them
abbrev pub HasStamp : ℕ → List Book → Type 0
HasStamp stamp books = (book : Book) × IsIn book books × (book.stamp ≡ stamp)
