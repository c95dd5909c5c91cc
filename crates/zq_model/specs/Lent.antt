-- The books that are lent to a command: their queues, and what moves make of them.

use Rattle.std.specs.Prelude.{Bool, List, [], if◌then◌else◌, length, map, slice_index, true, ℕ, ◌<◌, ◌==◌, ◌∷◌, ◌≡◌, ◌≤◌}
use Rattle.zq_model.specs.Books.{Book, Made, recorded}
use Rattle.zq_model.specs.Bounded.{IsBounded}
use Rattle.zq_model.specs.Heaps.{heap_of}
use Rattle.zq_model.specs.Image.{image_of}
use Rattle.zq_model.specs.Operation.{IsAct, LONGEST, Operation, operation_over}
use Rattle.zq_model.specs.Queue.{queue_of}
use Rattle.zq_model.specs.Rule.{Rule}
use Rattle.zq_model.specs.Sets.{IsIn, LAST}
use Rattle.zq_model.specs.Moves.{Move, Queues}

-- whether the member of the key lies in the book's heap
abbrev pub is_home_of : List ℕ → List ℕ → Book → Bool
is_home_of key member book = heap_of key member book.heaps == book.heap

abbrev pub is_home : Move → Book → Bool
is_home move book = is_home_of move.key move.member book

-- the operation that a site's move becomes in a book
abbrev pub operation_in : ℕ → Move → Book → Operation
operation_in site move book =
    operation_over book.heap book.state.vector site move.key move.member move.act

abbrev pub made_in : ℕ → ℕ → Move → Book → Book
made_in site stamp move book = recorded book stamp (Made (operation_in site move book))

-- the books after a move, which is made in the book of its heap
abbrev pub made : ℕ → ℕ → Move → List Book → List Book
made site stamp move books =
    map (λ book. if is_home move book then made_in site stamp move book else book) books

-- the books after these moves, one after the other
abbrev pub books_after : ℕ → ℕ → List Move → List Book → List Book
books_after site stamp [] books = books
books_after site stamp (move ∷ moves) books =
    books_after site stamp moves (made site stamp move books)

-- the queues over the books
abbrev pub queues_of : Rule → List Book → Queues
queues_of rule books = λ key. queue_of rule key (map (λ book. book.state.members) books)

-- a book of a heap, of K, whose state is within bounds
pub record IsLent (K : ℕ) (book : Book) : Type 0 where
  pub heaps : book.heaps ≡ K
  pub bounded : IsBounded K book.heap book.state

-- books of different heaps, of K, by rising heap
abbrev pub AreLent : ℕ → List Book → Type 0
AreLent K [] = Unit {0}
AreLent K (book ∷ books) = IsLent K book
    × ((later : Book) → IsIn later books → book.heap < later.heap) × AreLent K books

-- the member of the key lies in one of the books' heaps
abbrev pub HasHome : List ℕ → List ℕ → List Book → Type 0
HasHome key member books = (book : Book) × IsIn book books × (is_home_of key member book ≡ true)

-- the site can make the move in the books: it is in range, and the book of its heap is there, where
-- the site's counter is not at its last value
pub record CanMake (site : ℕ) (move : Move) (books : List Book) : Type 0 where
  pub act : IsAct move.act
  pub key : length move.key ≤ LONGEST
  pub member : length move.member ≤ LONGEST
  pub home : HasHome move.key move.member books
  pub counter : (book : Book) → IsIn book books → is_home move book ≡ true →
      slice_index book.state.vector site < LAST

-- and each of these moves, one after the other
abbrev pub CanMakeAll : ℕ → ℕ → List Move → List Book → Type 0
CanMakeAll site stamp [] books = Unit {0}
CanMakeAll site stamp (move ∷ moves) books = CanMake site move books
    × CanMakeAll site stamp moves (made site stamp move books)

-- each book's state is the image of the set in its heap
abbrev pub AreImagesOf : List Operation → List Book → Type 0
AreImagesOf S books = (book : Book) → IsIn book books → book.state ≡ image_of S book.heap
