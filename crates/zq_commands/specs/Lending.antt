-- The books that are lent to a command, by what rule their scores are read, and how many heaps
-- there are.

use Rattle.std.specs.Prelude.{List, Option, Some, filter, length, map, option_map, slice_get, true, ℕ, ◌++◌, ◌<◌, ◌≡◌, ◌≤◌}
use Rattle.zq_model.specs.Books.{Book}
use Rattle.zq_model.specs.Operation.{Act, Operation}
use Rattle.zq_model.specs.Rule.{Rule}
use Rattle.zq_model.specs.Sets.{IsIn}
use Rattle.zq_model.specs.Lent.{AreLent, HasHome, is_home, is_home_of, made, operation_in, queues_of}
use Rattle.zq_model.specs.Moves.{Move, Queues}
use Rattle.zq_semantics.specs.Run.{LAST_COUNT}

pub record Lending : Type 0 where
  pub rule : Rule
  pub heaps : ℕ
  pub books : List Book
  -- the operations that were made so far, the oldest first, where the books' holder keeps a list of
  -- them
  pub told : Option (List Operation)

abbrev pub queues_in : Lending → Queues
queues_in lent = queues_of lent.rule lent.books

-- the books are of different heaps and of one rule, each within bounds
pub record IsLending (lent : Lending) : Type 0 where
  pub books : AreLent lent.heaps lent.books
  pub ruled : (book : Book) → IsIn book lent.books → book.rule ≡ lent.rule

-- the member of the key lies in one of the heaps
abbrev pub HasBook : List ℕ → List ℕ → Lending → Type 0
HasBook key member lent = HasHome key member lent.books

-- and this is the place of its book
pub record IsHomeAt (key member : List ℕ) (place : ℕ) (lent : Lending) : Type 0 where
  pub inside : place < length lent.books
  pub home : (book : Book) → slice_get lent.books place ≡ Some book →
      is_home_of key member book ≡ true

-- an act on a member of a key
abbrev pub move_of : List ℕ → List ℕ → Act → Move
move_of key member act = record { key = key; member = member; act = act }

-- the operation that a move makes over books, which is that of the book of its heap
abbrev pub operations_by : ℕ → Move → List Book → List Operation
operations_by site move books = map (operation_in site move) (filter (is_home move) books)

-- what is told after a move over books
abbrev pub told_by : ℕ → Move → List Book → Option (List Operation) → Option (List Operation)
told_by site move books told = option_map (λ before. before ++ operations_by site move books) told

-- the books after a move, and what is told then
abbrev pub lent_after : ℕ → ℕ → Move → Lending → Lending
lent_after site stamp move lent =
    record lent {
      books = made site stamp move lent.books;
      told =
          told_by site move lent.books lent.told;
    }

-- a call of this stamp may work on the books: it is in range, and none of theirs is later
abbrev pub IsDated : ℕ → Lending → Type 0
IsDated stamp lent = (stamp ≤ LAST_COUNT)
    × ((book : Book) → IsIn book lent.books → book.stamp ≤ stamp)
