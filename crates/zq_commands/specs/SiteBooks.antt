-- The books of all heaps of a site, each at the place of its heap's number.

use Rattle.std.specs.Coded.{Coded, coded_list}
use Rattle.std.specs.Prelude.{IfOk, IsErrOf, List, OnOk, Result, Some, [], length, slice_get, ℕ, ◌++◌, ◌∷◌, ◌↔◌, ◌≡◌, ◌≢◌}
use Rattle.zq_commands.specs.VecBooks.{rule_in}
use Rattle.zq_dots.specs.Placed.{Placed}
use Rattle.zq_model.specs.Books.{Book, Merged, Step, merged}
use Rattle.zq_model.specs.Reach.{IsWorked}
use Rattle.zq_journal.specs.Books.{LAST_STAMP, book_taken, opened, state_of, steps_taken}
use Rattle.zq_journal.specs.Codes.{book_code}
use Rattle.zq_journal.specs.declared.faults.MergeFault.{MergeFault}
use Rattle.zq_journal.specs.declared.faults.MergeFault.TheVariants as unmerged
use Rattle.zq_journal.specs.declared.faults.TakeFault.{TakeFault}
use Rattle.zq_journal.specs.declared.faults.TakeFault.TheVariants as untaken
use Rattle.zq_model.specs.Bounded.{IsBounded}
use Rattle.zq_model.specs.Image.{empty_image}
use Rattle.zq_model.specs.Rule.{Rule}
use Rattle.zq_model.specs.Sets.{IsHeaps, New, taken_of}
use Rattle.zq_shard.specs.Shard.{HeapImage, IsOfHeap, IsSameHeap}
use Rattle.zq_shard.specs.Taken.{answer_of}
use Rattle.zq_shard.specs.declared.taken.Taken.{Taken}

abbrev pub books_code : Coded (List Book)
books_code = coded_list book_code

-- the book is that of this heap, of K, and of this rule, and within bounds
pub record IsBookOf (K : ℕ) (rule : Rule) (heap : ℕ) (book : Book) : Type 0 where
  pub heap_is : book.heap ≡ heap
  pub heaps : book.heaps ≡ K
  pub ruled : book.rule ≡ rule
  pub bounded : IsBounded K book.heap book.state

-- there is a book for each of 1 to 16 heaps, and all are of one rule
pub record AreOfSite (books : List Book) : Type 0 where
  pub number : IsHeaps (length books)
  pub each : (heap : ℕ) (book : Book) → slice_get books heap ≡ Some book →
      IsBookOf (length books) (rule_in books) heap book

-- the book of a heap, of K, in which nothing was done
abbrev pub empty_book : ℕ → Rule → ℕ → Book
empty_book K rule heap =
    opened (record { heap = heap; heaps = K; rule = rule; image = empty_image }) 0 0

-- work on the book left its heap and its rule, and it is within bounds
pub record IsKept (old new : Book) : Type 0 where
  pub heap : new.heap ≡ old.heap
  pub heaps : new.heaps ≡ old.heaps
  pub ruled : new.rule ≡ old.rule
  pub bounded : IsBounded new.heaps new.heap new.state

-- an operation was handed to the book: what was answered, and the book after it
pub record IsTaken (result : Result Taken TakeFault) (stamp : ℕ) (op : Placed)
    (old new : Book) : Type 0 where
  pub wrong_heap : IsErrOf result untaken.WrongHeap ↔ (IsOfHeap (state_of old) op → ⊥)
  pub worn : IsErrOf result untaken.Worn
      ↔ (IsOfHeap (state_of old) op × (taken_of old.state.vector op.operation ≡ New)
      × (old.count ≡ LAST_STAMP))
  pub no_memory : IsErrOf result untaken.NoMemory → taken_of old.state.vector op.operation ≡ New
  pub judged : IfOk result (λ taken. answer_of taken ≡ taken_of old.state.vector op.operation)
  pub book : OnOk result (new ≡ book_taken old stamp op.operation)
  pub worked : OnOk result ((a : Book) (steps : List Step) → IsWorked old a stamp steps →
      IsWorked new a stamp (steps ++ steps_taken old stamp op.operation))

-- another heap was merged into the book: what was answered, and the book after it
pub record IsMerged (result : Result (Unit {0}) MergeFault) (stamp : ℕ) (other : HeapImage)
    (old new : Book) : Type 0 where
  pub wrong_heap : IsErrOf result unmerged.WrongHeap ↔ (IsSameHeap (state_of old) other → ⊥)
  pub wrong_rule : IsErrOf result unmerged.WrongRule
      ↔ (IsSameHeap (state_of old) other × (old.rule ≢ other.rule))
  pub worn : IsErrOf result unmerged.Worn
      ↔ (IsSameHeap (state_of old) other × (old.rule ≡ other.rule) × (old.count ≡ LAST_STAMP))
  pub book : OnOk result (new ≡ merged old stamp other.image)
  pub worked : OnOk result ((a : Book) (steps : List Step) → IsWorked old a stamp steps →
      IsWorked new a stamp (steps ++ Merged stamp other.image ∷ []))
