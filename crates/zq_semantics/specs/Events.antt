-- Events of a world: a site is asked something, is handed an operation, or merges an image.

use Rattle.std.specs.Prelude.{Bool, List, None, Option, Some, [], if◌then◌else◌, length, nat_lt, slice_get, ℕ, ◌&&◌, ◌++◌, ◌∷◌, ◌||◌}
use Rattle.zq_model.specs.Operation.{Operation}
use Rattle.zq_model.specs.Rule.{Rule}
use Rattle.zq_model.specs.Sets.{Early, Known, New, Taken, in_heap, taken_of, vector_of}
use Rattle.zq_semantics.specs.Doing.{done}
use Rattle.zq_semantics.specs.State.{Sets, State, counted, is_full, is_worn, next_stamp}
use Rattle.zq_words.specs.Command.{command_of}
use Rattle.zq_words.specs.Words.{Word}

pub data Event : Type 0 where
  -- a site is asked a request of these words, with two words drawn for it
  Do : (site : ℕ) → (words : List Word) → (w1 w2 : ℕ) → Event
  -- a site is handed an operation, by its place among those that were made so far
  Take : (site op : ℕ) → Event
  -- a site merges the image of a heap that another had after this number of events
  Merge : (site from heap moment : ℕ) → Event

-- what an event is answered
pub data Answer : Type 0 where
  Replied : (reply : Word) → Answer
  -- nothing where a number that it needs is at its last value
  Handed : (taken : Option Taken) → Answer
  Merged : Answer

-- a state, what each site had after each number of events up to it, none first, and what each event
-- was answered
pub record Run : Type 0 where
  pub now : State
  pub past : List Sets
  pub answers : List Answer

-- ---- an operation that is handed over

-- a number that the site needs to record in the heap is at its last value
abbrev pub is_blocked : ℕ → State → ℕ → ℕ → Bool
is_blocked K st site heap = is_worn K st site || is_full st site heap

abbrev pub after_taken : ℕ → State → ℕ → Operation → Taken → State
after_taken K st site o New =
    if is_blocked K st site o.heap then st else counted st site o.heap
    (next_stamp K st site) st.made (o ∷ st.sets site)
after_taken K st site o Known = st
after_taken K st site o Early = st

abbrev pub answer_taken : ℕ → State → ℕ → Operation → Taken → Option Taken
answer_taken K st site o New = if is_blocked K st site o.heap then None else Some New
answer_taken K st site o Known = if is_worn K st site then None else Some Known
answer_taken K st site o Early = if is_worn K st site then None else Some Early

-- what becomes of an operation that the site is handed
abbrev pub judged : State → ℕ → Operation → Taken
judged st site o = taken_of (vector_of (st.sets site) o.heap) o

abbrev pub after_take : ℕ → State → ℕ → Option Operation → State
after_take K st site None = st
after_take K st site (Some o) = after_taken K st site o (judged st site o)

abbrev pub answer_to_take : ℕ → State → ℕ → Option Operation → Option Taken
answer_to_take K st site None = None
answer_to_take K st site (Some o) = answer_taken K st site o (judged st site o)

-- ---- a merge

-- a site's set after so many events, and nothing where there were not so many
abbrev pub set_in : Option Sets → ℕ → List Operation
set_in None site = []
set_in (Some sets) site = sets site

abbrev pub set_at : Run → ℕ → ℕ → List Operation
set_at r moment site = set_in (slice_get r.past moment) site

abbrev pub after_merge : ℕ → Run → ℕ → ℕ → ℕ → ℕ → State
after_merge K r site from heap moment =
    if is_blocked K r.now site heap then r.now else
    counted r.now site heap (next_stamp K r.now site) r.now.made
    (r.now.sets site ++ in_heap heap (set_at r moment from))

-- ---- an event

abbrev pub state_after : Rule → ℕ → Run → Event → State
state_after rule K r (Do site words w1 w2) = (done rule K site w1 w2 r.now (command_of words)).now
state_after rule K r (Take site op) = after_take K r.now site (slice_get r.now.made op)
state_after rule K r (Merge site from heap moment) = after_merge K r site from heap moment

abbrev pub answer_to : Rule → ℕ → Run → Event → Answer
answer_to rule K r (Do site words w1 w2) =
    Replied (done rule K site w1 w2 r.now (command_of words)).reply
answer_to rule K r (Take site op) = Handed (answer_to_take K r.now site (slice_get r.now.made op))
answer_to rule K r (Merge site from heap moment) = Merged

-- whether what the event names is there, of so many sites
abbrev pub is_possible : ℕ → ℕ → Run → Event → Bool
is_possible K sites r (Do site words w1 w2) = nat_lt site sites
is_possible K sites r (Take site op) = nat_lt site sites && nat_lt op (length r.now.made)
is_possible K sites r (Merge site from heap moment) =
    nat_lt site sites && (nat_lt from sites && (nat_lt heap K && nat_lt moment (length r.past)))
