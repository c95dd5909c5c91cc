-- Notes of calls.

use Rattle.std.specs.Prelude.{List, Option, Result, ℕ}
use Rattle.zq_dots.specs.Placed.{Placed}
use Rattle.zq_model.specs.Books.{Book, Step}
use Rattle.zq_journal.specs.declared.faults.MergeFault.{MergeFault}
use Rattle.zq_journal.specs.declared.faults.TakeFault.{TakeFault}
use Rattle.zq_journal.specs.declared.faults.TakeOverFault.{TakeOverFault}
use Rattle.zq_journal.specs.declared.since.Since.{Since}
use Rattle.zq_shard.specs.Shard.{HeapImage}
use Rattle.zq_shard.specs.declared.spot.Spot.{Spot}
use Rattle.zq_shard.specs.declared.taken.Taken.{Taken}
use Rattle.zq_stage.specs.declared.portion.Portion.{Portion}
use Rattle.zq_stage.specs.declared.portion.PortionLimits.{PortionLimits}
use Rattle.zq_spread.specs.Watches.{Watch}
use Rattle.zq_spread.specs.declared.faults.ReadFault.{ReadFault}
use Rattle.zq_spread.specs.declared.taken_all.TakenAll.{TakenAll}
use Rattle.zq_words.specs.Calls.{Call}
use Rattle.zq_words.specs.Command.{Command}
use Rattle.zq_words.specs.Words.{Word}

-- what a call is asked
pub data Asked : Type 0 where
  -- to run a command, with two words drawn for it
  ToRun : (command : Command) → (w1 w2 : ℕ) → Asked
  -- to run several things that a site can be asked, one after the other
  ToRunEach : (calls : List Call) → Asked
  -- to run them where nothing that is watched was changed
  ToRunWatched : (watch : Watch) → (calls : List Call) → Asked
  -- to take an operation of another site
  ToTake : (op : Placed) → Asked
  -- to take operations of other sites in a heap, one after the other
  ToTakeAll : (heap : ℕ) → (ops : List Placed) → Asked
  -- to merge a heap of another site
  ToMerge : (other : HeapImage) → Asked
  -- to take a heap in the place of its own
  ToTakeOver : (other : HeapImage) → Asked
  -- to tell what a peer of this vector lacks of a heap
  ToTell : (heap : ℕ) → (vector : List ℕ) → Asked
  -- to copy a heap
  ToCopy : (heap : ℕ) → Asked
  -- to copy a portion of a heap, from this spot of a walk on
  ToPortion : (heap : ℕ) → (spot : Spot) → (limits : PortionLimits) → Asked
  -- to show which operations of a heap it has
  ToShow : (heap : ℕ) → Asked
  -- to give a log of this vector what it lacks of a heap, at most so many operations
  ToDrain : (heap : ℕ) → (vector : List ℕ) → (most : ℕ) → Asked

-- and what it answers
pub data Answer : Type 0 where
  Replied : (reply : Word) → Answer
  RepliedEach : (replies : List Word) → Answer
  -- none where something that is watched was changed
  RepliedIf : (replies : Option (List Word)) → Answer
  Handed : (result : Result Taken TakeFault) → Answer
  HandedAll : (answer : TakenAll) → Answer
  Joined : (result : Result (Unit {0}) MergeFault) → Answer
  TakenOver : (result : Result (Unit {0}) TakeOverFault) → Answer
  Told : (result : Result Since ReadFault) → Answer
  Copied : (result : Result HeapImage ReadFault) → Answer
  Portioned : (result : Result Portion ReadFault) → Answer
  Shown : (vector : List ℕ) → Answer

-- a call: whose, its stamp, the heaps that it held, what was asked, its answer, and its own steps
-- in each heap that it held
pub record Note : Type 0 where
  pub pass : ℕ
  pub stamp : ℕ
  pub heaps : List ℕ
  pub asked : Asked
  pub answer : Answer
  pub steps : List (List Step)

-- the book of each heap
abbrev pub Books : Type 0
Books = ℕ → Book
