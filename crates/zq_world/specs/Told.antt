-- Books of a site with a list of what was made, as they are lent to a command.

use Rattle.std.specs.Prelude.{List, Some, map, ℕ, ◌≡◌}
use Rattle.zq_commands.specs.Lending.{Lending}
use Rattle.zq_commands.specs.VecBooks.{heaps_in, lending_of}
use Rattle.zq_dots.specs.Placed.{Placed}
use Rattle.zq_model.specs.Books.{Book}
use Rattle.zq_model.specs.Operation.{Operation}
use Rattle.zq_model.specs.Sets.{IsIn}
use Rattle.zq_model.specs.Lent.{operation_in}
use Rattle.zq_model.specs.Moves.{Move}

abbrev pub operations_in : List Placed → List Operation
operations_in made = map (λ p. p.operation) made

-- the books, and the list of what was made
abbrev pub lending_told : List Book → List Placed → Lending
lending_told books made = record (lending_of books) { told = Some (operations_in made) }

-- the operation that a move becomes in a book, among as many heaps as that has
abbrev pub told_in : ℕ → Move → Book → Placed
told_in site move book = record { heaps = book.heaps; operation = operation_in site move book }

-- each operation was made by a site of so many heaps
abbrev pub AreAmong : ℕ → List Placed → Type 0
AreAmong K made = (p : Placed) → IsIn p made → p.heaps ≡ K

-- where the books are of so many heaps, and so is what was made, they still are
abbrev pub KeepsHeaps : List Book → List Placed → List Book → List Placed → Type 0
KeepsHeaps books made later told = (K : ℕ) → heaps_in books ≡ K → AreAmong K made →
    (heaps_in later ≡ K) × AreAmong K told
