-- Events that the run of a world can have: no call was cut, and what it was asked is there.

use Rattle.std.specs.Prelude.{Err, List, Ok, [], length, map, ℕ, ◌+◌, ◌++◌, ◌<◌, ◌∷◌, ◌≡◌, ◌≤◌}
use Rattle.zq_dots.specs.Placed.{Placed}
use Rattle.zq_model.specs.Books.{Book, Step}
use Rattle.zq_model.specs.Limits.{TailLimits}
use Rattle.zq_model.specs.Rule.{Rule}
use Rattle.zq_model.specs.Sets.{IsIn, SITES}
use Rattle.zq_model.specs.Lent.{queues_of}
use Rattle.zq_model.specs.Moves.{Queues}
use Rattle.zq_notes.specs.Notes.{Answer, Asked, Handed, Joined, Replied, TakenOver, ToMerge, ToRun, ToRunEach, ToRunWatched, ToTake, ToTakeAll, ToTakeOver}
use Rattle.zq_notes.specs.Sites.{Event, books_at, made_of}
use Rattle.zq_semantics.specs.Plan.{plan_of}
use Rattle.zq_semantics.specs.Replies.{bytes_of}
use Rattle.zq_semantics.specs.Run.{LAST_COUNT}
use Rattle.zq_resp.specs.Request.{IsRequest}
use Rattle.zq_words.specs.Command.{Command, command_of}
use Rattle.zq_words.specs.Words.{Word}

-- the number of a call's steps, in all its heaps
abbrev pub steps_in : List (List Step) → ℕ
steps_in [] = 0
steps_in (ss ∷ steps) = length ss + steps_in steps

-- and of those of several calls
abbrev pub steps_of : List Event → ℕ
steps_of [] = 0
steps_of (e ∷ events) = steps_in e.call.note.steps + steps_of events

-- the command did all that it plans over these queues: it has a step for each move, and the reply
-- is the plan's
pub record IsInFull (queues : Queues) (command : Command) (reply : Word)
    (steps : List (List Step)) : Type 0 where
  pub says : reply ≡ bytes_of (plan_of command queues).reply
  pub moves : steps_in steps ≡ length (plan_of command queues).moves

-- a call was not cut: a command did all that it plans over the books found, and no operation or heap
-- that it was handed alone was refused. A list of operations may be taken in part
abbrev pub IsUncut : Rule → Asked → Answer → List Book → List (List Step) → Type 0
IsUncut rule (ToRun command w1 w2) (Replied reply) found steps =
    IsInFull (queues_of rule found) command reply steps
IsUncut rule (ToTake op) (Handed (Err fault)) found steps = ⊥
IsUncut rule (ToMerge other) (Joined (Err fault)) found steps = ⊥
IsUncut rule (ToTakeOver other) (TakenOver (Err fault)) found steps = ⊥
IsUncut rule asked answer found steps = Unit {0}

-- what a call was asked is there: a request has such a command, the operation was made before, or
-- each of the list, and the heap is one of K. No event of a run asks several things at once
abbrev pub IsThere : ℕ → List Event → Asked → Type 0
IsThere K before (ToRun command w1 w2) =
    (words : List Word) × IsRequest words × (command_of words ≡ Ok command)
IsThere K before (ToRunEach calls) = ⊥
IsThere K before (ToRunWatched watch calls) = ⊥
IsThere K before (ToTake op) = IsIn op.operation (made_of before)
IsThere K before (ToTakeAll heap ops) = (op : Placed) → IsIn op ops →
    IsIn op.operation (made_of before)
IsThere K before (ToMerge other) = other.heap < K
IsThere K before (ToTakeOver other) = other.heap < K
IsThere K before asked = Unit {0}

-- the event is such a call, of one of so many sites
pub record IsRunnable (limits : ℕ → TailLimits) (rule : Rule) (K count : ℕ) (before : List Event)
    (e : Event) : Type 0 where
  pub site : e.site < count
  pub asked : IsThere K before e.call.note.asked
  pub uncut : IsUncut rule e.call.note.asked e.call.note.answer
      (map (books_at limits rule K e.site before) e.call.note.heaps) e.call.note.steps

-- so are all of these, of sites of K heaps, and they have fewer steps than the last stamp: so in
-- the run of a world no stamp and no count comes to its last value
pub record AreRunnable (limits : ℕ → TailLimits) (rule : Rule) (K count : ℕ)
    (events : List Event) : Type 0 where
  pub two : 2 ≤ K
  pub most : K ≤ 16
  pub few : count ≤ SITES
  pub unworn : steps_of events < LAST_COUNT
  pub each : (before : List Event) (e : Event) (after : List Event) → events ≡ before ++ e ∷ after →
      IsRunnable limits rule K count before e
