-- Books that a call begins with, and what a book shows.

use Rattle.std.specs.Prelude.{List, None, Option, [], map, ℕ, ◌++◌, ◌∷◌, ◌≡◌}
use Rattle.zq_model.specs.Books.{Book, Change, Recorded, Step, Took, operations_of, recorded}
use Rattle.zq_model.specs.Limits.{TailLimits, standard}
use Rattle.zq_model.specs.Undoing.{Leaf, undone}
use Rattle.zq_model.specs.Image.{image_of}
use Rattle.zq_model.specs.Operation.{Operation}
use Rattle.zq_model.specs.Sets.{Early, IsClosed, IsWorld, Known, New, Taken, taken_of, vector_of}
use Rattle.zq_model.specs.Tail.{tail_set}
use Rattle.zq_shard.specs.Shard.{HeapImage}

-- the last stamp, and the last count
unfoldable pub LAST_STAMP : ℕ
LAST_STAMP = 4611686018427387904

-- the book of a heap before its first record
abbrev pub opened : HeapImage → ℕ → ℕ → Book
opened s stamp count = record {
  heap = s.heap;
  heaps = s.heaps;
  rule = s.rule;
  base = s.image;
  state = s.image;
  tail = [];
  stamp = stamp;
  count = count;
  limits = standard;
  handed = None;
}

-- the book of a heap whose tail can be undone: its base has this vector, and the members that
-- undoing the tail gives
abbrev pub book_over : HeapImage → List ℕ → List Leaf → TailLimits → Option ℕ → ℕ → ℕ → Book
book_over s vector leaves limits handed stamp count = record {
  heap = s.heap;
  heaps = s.heaps;
  rule = s.rule;
  base = record { vector = vector; members = undone leaves s.image.members };
  state = s.image;
  tail = map (λ leaf. leaf.written) leaves;
  stamp = stamp;
  count = count;
  limits = limits;
  handed = handed;
}

abbrev pub base_of : Book → HeapImage
base_of b = record { heap = b.heap; heaps = b.heaps; rule = b.rule; image = b.base }

abbrev pub state_of : Book → HeapImage
state_of b = record { heap = b.heap; heaps = b.heaps; rule = b.rule; image = b.state }

-- S is what the base of the book has taken, a closed set, and with the tail it lies in one world
pub record IsBased (b : Book) (S : List Operation) : Type 0 where
  pub world : IsWorld b.heaps (tail_set S (operations_of b.tail))
  pub closed : IsClosed S
  pub base : b.base ≡ image_of S b.heap

-- S is what the base of the book has taken, T what a peer of the vector v has, both closed, and
-- with the tail they lie in one world
pub record IsPeer (b : Book) (S T : List Operation) (v : List ℕ) : Type 0 where
  pub world : IsWorld b.heaps (tail_set S (operations_of b.tail) ++ T)
  pub closed : IsClosed S
  pub theirs : IsClosed T
  pub base : b.base ≡ image_of S b.heap
  pub vector : v ≡ vector_of T b.heap

abbrev pub book_when : Taken → Book → ℕ → Operation → Book
book_when New b stamp o = recorded b stamp (Took o)
book_when Known b stamp o = b
book_when Early b stamp o = b

-- the book after an operation that is handed to it: what is known or early changes nothing
abbrev pub book_taken : Book → ℕ → Operation → Book
book_taken b stamp o = book_when (taken_of b.state.vector o) b stamp o

-- the step of a record at this stamp
abbrev pub step_of : ℕ → Change → Step
step_of stamp change = Recorded (record { stamp = stamp; change = change })

abbrev pub steps_when : Taken → ℕ → Operation → List Step
steps_when New stamp o = step_of stamp (Took o) ∷ []
steps_when Known stamp o = []
steps_when Early stamp o = []

-- the steps of a book to which an operation is handed
abbrev pub steps_taken : Book → ℕ → Operation → List Step
steps_taken b stamp o = steps_when (taken_of b.state.vector o) stamp o
