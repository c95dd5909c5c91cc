-- Operations of a list that a call takes in turn.

use Rattle.std.specs.Prelude.{List, [], length, ℕ, ◌+◌, ◌++◌, ◌∷◌, ◌≡◌, ◌≢◌}
use Rattle.zq_dots.specs.Placed.{Placed}
use Rattle.zq_journal.specs.Books.{LAST_STAMP, book_taken, state_of, steps_taken, steps_when}
use Rattle.zq_journal.specs.declared.faults.TakeFault.TheVariants.{NoMemory, WrongHeap, Worn}
use Rattle.zq_model.specs.Books.{Book, Step}
use Rattle.zq_model.specs.Image.{image_taken}
use Rattle.zq_model.specs.Reach.{IsWorked}
use Rattle.zq_model.specs.Sets as sets
use Rattle.zq_model.specs.Sets.{taken_of}
use Rattle.zq_shard.specs.Shard.{HeapImage, IsOfHeap}
use Rattle.zq_spread.specs.declared.taken_all.TakeEnd.{TakeEnd}
use Rattle.zq_spread.specs.declared.taken_all.TakeEnd.TheVariants.{All, Early, Refused}
use Rattle.zq_spread.specs.declared.taken_all.TakenAll.{TakenAll}

-- what becomes of the operation where it is handed to the heap
abbrev pub judged_at : HeapImage → Placed → sets.Taken
judged_at s p = taken_of s.image.vector p.operation

-- the heap after that: what is known or early changes nothing
abbrev pub heap_after : Placed → HeapImage → HeapImage
heap_after p s = record {
  heap = s.heap;
  heaps = s.heaps;
  rule = s.rule;
  image = image_taken p.operation s.image;
}

-- and after these, one after the other
abbrev pub heap_after_all : List Placed → HeapImage → HeapImage
heap_after_all [] s = s
heap_after_all (p ∷ ops) s = heap_after_all ops (heap_after p s)

-- their steps: one for each that is new where its turn comes
abbrev pub steps_of_all : ℕ → List Placed → HeapImage → List Step
steps_of_all stamp [] s = []
steps_of_all stamp (p ∷ ops) s = steps_when (judged_at s p) stamp p.operation
    ++ steps_of_all stamp ops (heap_after p s)

-- each of them is of the heap, and new or known where its turn comes
abbrev pub AreTaken : List Placed → HeapImage → Type 0
AreTaken [] s = Unit {0}
AreTaken (p ∷ ops) s = IsOfHeap s p × (judged_at s p ≢ sets.Early) × AreTaken ops (heap_after p s)

-- a book took one of them
pub record IsTakenNext (stamp : ℕ) (p : Placed) (old new : Book) : Type 0 where
  pub of : IsOfHeap (state_of old) p
  pub late : judged_at (state_of old) p ≢ sets.Early
  pub book : new ≡ book_taken old stamp p.operation
  pub worked : (a : Book) (steps : List Step) → IsWorked old a stamp steps →
      IsWorked new a stamp (steps ++ steps_taken old stamp p.operation)

-- why the heap, whose book counts so many steps, did not take the operation: it is early, or the
-- book refuses it
abbrev pub IsNotTaken : TakeEnd → Placed → HeapImage → ℕ → Type 0
IsNotTaken All p s count = ⊥
IsNotTaken Early p s count = IsOfHeap s p × (judged_at s p ≡ sets.Early)
IsNotTaken (Refused WrongHeap) p s count = IsOfHeap s p → ⊥
IsNotTaken (Refused Worn) p s count = IsOfHeap s p × (judged_at s p ≡ sets.New)
    × (count ≡ LAST_STAMP)
IsNotTaken (Refused NoMemory) p s count = IsOfHeap s p × (judged_at s p ≡ sets.New)

-- and none of what is left of a list: nothing is, or the first of it was not taken
abbrev pub EndsAt : TakeEnd → List Placed → HeapImage → ℕ → Type 0
EndsAt end [] s count = end ≡ All
EndsAt end (p ∷ left) s count = IsNotTaken end p s count

-- these operations were handed to the heap, whose book counts so many steps, as far as this: the
-- first of them were taken in turn, by these steps, and the one after them was not
pub record IsTakenSoFar (stamp : ℕ) (ops : List Placed) (answer : TakenAll) (s : HeapImage)
    (count : ℕ) (steps : List Step) : Type 0 where
  pub taken : List Placed
  pub left : List Placed
  pub split : ops ≡ taken ++ left
  pub number : answer.taken ≡ length taken
  pub fresh : answer.fresh ≡ length steps
  pub are : AreTaken taken s
  pub steps_are : steps ≡ steps_of_all stamp taken s
  pub end : EndsAt answer.end left (heap_after_all taken s) (count + length steps)

-- a call took the operations as far as it says
abbrev pub IsTakenAll : ℕ → List Placed → TakenAll → List Book → List (List Step) → Type 0
IsTakenAll stamp ops answer (b ∷ []) (steps ∷ []) =
    IsTakenSoFar stamp ops answer (state_of b) b.count steps
IsTakenAll stamp ops answer books steps = ⊥
