-- The books of some heaps of one site, each at its place in a list: how they are lent, and what
-- work leaves of them.

use Rattle.std.specs.Prelude.{List, None, Some, [], length, slice_get, ℕ, ◌++◌, ◌∷◌, ◌≡◌, ◌≤◌}
use Rattle.zq_commands.specs.Lending.{Lending}
use Rattle.zq_model.specs.Books.{Book, Record, Step, steps_of}
use Rattle.zq_model.specs.Reach.{IsWorked}
use Rattle.zq_model.specs.Rule.{Greatest, Rule}

-- the rule of the first book, and any where there is none
abbrev pub rule_in : List Book → Rule
rule_in [] = Greatest
rule_in (book ∷ books) = book.rule

-- the number of heaps of the first book, and any where there is none
abbrev pub heaps_in : List Book → ℕ
heaps_in [] = 1
heaps_in (book ∷ books) = book.heaps

-- no list is kept of what is made in them
abbrev pub lending_of : List Book → Lending
lending_of books = record { rule = rule_in books; heaps = heaps_in books; books = books; told = None }

-- a site's own work led from the old book to the new one: there are records more, with which the
-- work of a call of the new book's stamp goes on from the one to the other, wherever it began; a
-- call raises a book's stamp to its own before it works
pub record IsRecordedOn (old new : Book) : Type 0 where
  pub stamp : old.stamp ≤ new.stamp
  pub records : List Record
  pub tail : new.tail ≡ old.tail ++ records
  pub worked : (start : Book) (steps : List Step) → IsWorked old start new.stamp steps →
      IsWorked new start new.stamp (steps ++ steps_of records)

-- there are as many books, and each was worked on so at its place
pub record AreRecordedOn (old new : List Book) : Type 0 where
  pub number : length new ≡ length old
  pub each : (place : ℕ) (before later : Book) → slice_get old place ≡ Some before →
      slice_get new place ≡ Some later → IsRecordedOn before later
