-- What is so of the calls of sites that are linked.

use Rattle.std.specs.Prelude.{List, Ok, [], map, take, true, ℕ, ◌++◌, ◌∷◌, ◌≡◌}
use Rattle.zq_dots.specs.Placed.{Placed}
use Rattle.zq_model.specs.Limits.{TailLimits}
use Rattle.zq_model.specs.Operation.{Operation, has}
use Rattle.zq_model.specs.Rule.{Rule}
use Rattle.zq_model.specs.Sets.{AreSame, Early, IsIn, IsWorld}
use Rattle.zq_model.specs.Lent.{queues_of}
use Rattle.zq_notes.specs.Gathered.{AreImagesOf}
use Rattle.zq_notes.specs.Notes.{Books, Handed, HandedAll, Joined, Portioned, TakenOver, ToMerge, ToPortion, ToTake, ToTakeAll, ToTakeOver}
use Rattle.zq_notes.specs.Readings.{IsReadOff}
use Rattle.zq_notes.specs.Sites.{Event, books_at, empty_books, has_at, made_of, notes_at}
use Rattle.zq_notes.specs.Thread.{IsOneThread}
use Rattle.zq_semantics.specs.Reading.{heaps_in}
use Rattle.zq_shard.specs.Shard.{HeapImage}
use Rattle.zq_shard.specs.Taken.{answer_of}
use Rattle.zq_shard.specs.declared.spot.Spot.{Spot}
use Rattle.zq_shard.specs.declared.taken.Taken.{Taken}
use Rattle.zq_stage.specs.Staged.{IsPieceOf}
use Rattle.zq_stage.specs.declared.portion.Portion.{Portion}
use Rattle.zq_stage.specs.declared.portion.PortionLimits.{PortionLimits}
use Rattle.zq_spread.specs.declared.taken_all.TakenAll.{TakenAll}

-- the books of two sites of K heaps hold the same: each heap's image, and so the queue of each key
pub record HoldSame (rule : Rule) (K : ℕ) (first second : Books) : Type 0 where
  pub images : (h : ℕ) → (first h).state ≡ (second h).state
  pub queues : queues_of rule (map first (heaps_in K)) ≡ queues_of rule (map second (heaps_in K))

pub record IsLinked (limits : ℕ → TailLimits) (rule : Rule) (K : ℕ) (events : List Event) :
    Type 0 where
  -- all that the sites made is one world
  pub world : IsWorld K (made_of events)
  -- the calls of each site are one thread's
  pub thread : (s : ℕ) → IsOneThread rule K s (empty_books (limits s) rule K) (notes_at s events)
  -- ---- after each part of the calls

  -- each heap is the image of what its site has, a closed set
  pub images : (s : ℕ) (before after : List Event) → events ≡ before ++ after →
      AreImagesOf rule K (made_of events) (has_at (made_of events) s before)
      (books_at limits rule K s before)
  -- which is of that world
  pub within : (s : ℕ) (before after : List Event) → events ≡ before ++ after → (o : Operation) →
      IsIn o (has_at (made_of events) s before) → IsIn o (made_of events)
  -- sites that have the same operations hold the same, whenever each of them has these
  pub converges : (s t : ℕ) (before after past later : List Event) → events ≡ before ++ after →
      events ≡ past ++ later →
      AreSame (has_at (made_of events) s before) (has_at (made_of events) t past) →
      HoldSame rule K (books_at limits rule K s before) (books_at limits rule K t past)
  -- ---- what a site has

  -- what it made by then
  pub own : (before after : List Event) → events ≡ before ++ after → (o : Operation) →
      IsIn o (made_of before) → IsIn o (has_at (made_of events) o.site before)
  -- what it was handed and answered New or Known
  pub taken : (before : List Event) (e : Event) (after : List Event) →
      events ≡ before ++ e ∷ after → (op : Placed) (answer : Taken) →
      e.call.note.asked ≡ ToTake op →
      e.call.note.answer ≡ Handed (Ok answer) → (answer_of answer ≡ Early → ⊥) →
      IsIn op.operation (made_of events) →
      IsIn op.operation (has_at (made_of events) e.site (before ++ e ∷ []))
  -- each that it took of a list
  pub taken_all : (before : List Event) (e : Event) (after : List Event) →
      events ≡ before ++ e ∷ after → (heap : ℕ) (ops : List Placed) (answer : TakenAll) →
      e.call.note.asked ≡ ToTakeAll heap ops →
      e.call.note.answer ≡ HandedAll answer → (op : Placed) → IsIn op (take answer.taken ops) →
      IsIn op.operation (made_of events) →
      IsIn op.operation (has_at (made_of events) e.site (before ++ e ∷ []))
  -- what an image that it merged covers
  pub merged : (before : List Event) (e : Event) (after : List Event) →
      events ≡ before ++ e ∷ after → (other : HeapImage) (done : Unit {0}) →
      e.call.note.asked ≡ ToMerge other →
      e.call.note.answer ≡ Joined (Ok done) → (o : Operation) → IsIn o (made_of events) →
      o.heap ≡ other.heap → has other.image.vector o.site o.n ≡ true →
      IsIn o (has_at (made_of events) e.site (before ++ e ∷ []))
  -- or took over
  pub taken_over : (before : List Event) (e : Event) (after : List Event) →
      events ≡ before ++ e ∷ after → (other : HeapImage) (done : Unit {0}) →
      e.call.note.asked ≡ ToTakeOver other →
      e.call.note.answer ≡ TakenOver (Ok done) → (o : Operation) → IsIn o (made_of events) →
      o.heap ≡ other.heap → has other.image.vector o.site o.n ≡ true →
      IsIn o (has_at (made_of events) e.site (before ++ e ∷ []))
  -- and what it had: no call loses an operation
  pub stays : (s : ℕ) (before between after : List Event) → events ≡ before ++ between ++ after →
      (o : Operation) → IsIn o (has_at (made_of events) s before) →
      IsIn o (has_at (made_of events) s (before ++ between))
  -- ---- what a site hands out

  -- a portion of a heap is a piece of what the site had before the call: what a stage elsewhere takes
  pub portioned : (before : List Event) (e : Event) (after : List Event) →
      events ≡ before ++ e ∷ after → (heap : ℕ) (spot : Spot) (limits : PortionLimits)
      (portion : Portion) → e.call.note.asked ≡ ToPortion heap spot limits →
      e.call.note.answer ≡ Portioned (Ok portion) →
      IsPieceOf (has_at (made_of events) e.site before) portion.part
  -- ---- what a call answers and does

  -- it is read off what its site had before it
  pub answers : (before : List Event) (e : Event) (after : List Event) →
      events ≡ before ++ e ∷ after →
      IsReadOff rule K e.site (has_at (made_of events) e.site before) e.call.note
