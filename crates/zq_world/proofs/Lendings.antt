-- Books can be lent with a list of what was made where they can be lent without.

use Rattle.std.proofs.Common.{List}
use Rattle.zq_commands.specs.Lending.{IsLending}
use Rattle.zq_commands.specs.VecBooks.{lending_of}
use Rattle.zq_dots.specs.Placed.{Placed}
use Rattle.zq_model.specs.Books.{Book}
use Rattle.zq_world.specs.Told.{lending_told}

pub bare_lending : (books : List Book) (made : List Placed) → IsLending (lending_told books made) → IsLending (lending_of books)
bare_lending books made are = record { books = are.books; ruled = are.ruled }

pub told_lending : (books : List Book) (made : List Placed) → IsLending (lending_of books) → IsLending (lending_told books made)
told_lending books made are = record { books = are.books; ruled = are.ruled }
