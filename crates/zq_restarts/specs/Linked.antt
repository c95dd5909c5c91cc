-- What is so of sites that are linked, some of which crash and begin again.

use Rattle.std.specs.Prelude.{List, Ok, take, true, ℕ, ◌++◌, ◌∷◌, ◌≡◌, ◌⊎◌}
use Rattle.zq_dots.specs.Placed.{Placed}
use Rattle.zq_model.specs.Operation.{Operation, has}
use Rattle.zq_model.specs.Rule.{Rule}
use Rattle.zq_model.specs.Sets.{AreSame, Early, IsIn}
use Rattle.zq_notes.specs.Linked.{HoldSame}
use Rattle.zq_notes.specs.Notes.{Handed, HandedAll, Joined, Portioned, TakenOver, ToMerge, ToPortion, ToTake, ToTakeAll, ToTakeOver}
use Rattle.zq_notes.specs.Readings.{IsReadOff}
use Rattle.zq_notes.specs.Sites.{Event}
use Rattle.zq_notes.specs.Thread.{IsNoteOver, IsOneThread}
use Rattle.zq_recovery.specs.Laws.{GoesOn}
use Rattle.zq_restarts.specs.Runs.{Called, Happening, RunsOn, State, has_after, left_after, notes_in, reached}
use Rattle.zq_restarts.specs.Standing.{IsStanding, MakesNew}
use Rattle.zq_shard.specs.Shard.{HeapImage}
use Rattle.zq_shard.specs.Taken.{answer_of}
use Rattle.zq_shard.specs.declared.spot.Spot.{Spot}
use Rattle.zq_shard.specs.declared.taken.Taken.{Taken}
use Rattle.zq_stage.specs.Staged.{IsPieceOf}
use Rattle.zq_stage.specs.declared.portion.Portion.{Portion}
use Rattle.zq_stage.specs.declared.portion.PortionLimits.{PortionLimits}
use Rattle.zq_spread.specs.declared.taken_all.TakenAll.{TakenAll}

module _ (rule : Rule) (K : ℕ) where
  -- of a call, over what stands before it
  pub record IsLinkedCall (now : State) (e : Event) : Type 0 where
    -- it is over what the site's calls left since it last began
    pub over : IsNoteOver rule K e.site (now.books e.site) e.call.note
    -- it is read off what its site had before it
    pub answers : IsReadOff rule K e.site (now.has e.site) e.call.note
    -- ---- what the site has then

    -- what it made; nothing else is new
    pub made : (o : Operation) → IsIn o (left_after e now) →
        IsIn o now.left ⊎ ((o.site ≡ e.site) × IsIn o (has_after e now))
    -- what it had: no call loses an operation
    pub stays : (o : Operation) → IsIn o (now.has e.site) → IsIn o (has_after e now)
    -- what it was handed and answered New or Known
    pub taken : (op : Placed) (answer : Taken) → e.call.note.asked ≡ ToTake op →
        e.call.note.answer ≡ Handed (Ok answer) → (answer_of answer ≡ Early → ⊥) →
        IsIn op.operation (left_after e now) → IsIn op.operation (has_after e now)
    -- each that it took of a list
    pub taken_all : (heap : ℕ) (ops : List Placed) (answer : TakenAll) →
        e.call.note.asked ≡ ToTakeAll heap ops → e.call.note.answer ≡ HandedAll answer →
        (op : Placed) → IsIn op (take answer.taken ops) → IsIn op.operation (left_after e now) →
        IsIn op.operation (has_after e now)
    -- what an image that it merged covers
    pub merged : (other : HeapImage) (done : Unit {0}) → e.call.note.asked ≡ ToMerge other →
        e.call.note.answer ≡ Joined (Ok done) → (o : Operation) → IsIn o (left_after e now) →
        o.heap ≡ other.heap → has other.image.vector o.site o.n ≡ true → IsIn o (has_after e now)
    -- or took over
    pub taken_over : (other : HeapImage) (done : Unit {0}) → e.call.note.asked ≡ ToTakeOver other →
        e.call.note.answer ≡ TakenOver (Ok done) → (o : Operation) → IsIn o (left_after e now) →
        o.heap ≡ other.heap → has other.image.vector o.site o.n ≡ true → IsIn o (has_after e now)
    -- ---- what a site hands out

    -- a portion of a heap is a piece of what the site had before the call
    pub portioned : (heap : ℕ) (spot : Spot) (limits : PortionLimits) (portion : Portion) →
        e.call.note.asked ≡ ToPortion heap spot limits →
        e.call.note.answer ≡ Portioned (Ok portion) → IsPieceOf (now.has e.site) portion.part

  -- of all that happened
  pub record IsLinkedRun (opening : State) (happenings : List Happening) : Type 0 where
    -- ---- after each part of it

    -- all that is left is one world, and each heap is the image of what its site has
    pub stands : (before later : List Happening) → happenings ≡ before ++ later →
        IsStanding rule K (reached opening before)
    -- each site may go on under its number
    pub goes_on : (before later : List Happening) → happenings ≡ before ++ later → (s : ℕ) →
        GoesOn K s (reached opening before).left ((reached opening before).has s)
    -- and what it makes next is new
    pub makes_new : (before later : List Happening) → happenings ≡ before ++ later →
        MakesNew rule K (reached opening before)
    -- sites that have the same operations hold the same, whenever each of them has these
    pub converges : (s t : ℕ) (before later past since : List Happening) →
        happenings ≡ before ++ later → happenings ≡ past ++ since →
        AreSame ((reached opening before).has s) ((reached opening past).has t) →
        HoldSame rule K ((reached opening before).books s) ((reached opening past).books t)
    -- ---- calls

    pub calls : (before : List Happening) (e : Event) (later : List Happening) →
        happenings ≡ before ++ Called e ∷ later → IsLinkedCall (reached opening before) e
    -- those of each site from one start to the next are one thread's
    pub thread : (s : ℕ) (before between later : List Happening) →
        happenings ≡ before ++ (between ++ later) → RunsOn s between →
        IsOneThread rule K s ((reached opening before).books s) (notes_in s between)
