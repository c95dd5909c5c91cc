-- Calls of running sites as events of the run of a world.

use Rattle.std.specs.Prelude.{List, Ok, Some, [], length, pos, slice_get, take, true, ℕ, ◌++◌, ◌∷◌, ◌≡◌, ◌≢◌}
use Rattle.zq_dots.specs.Placed.{Placed}
use Rattle.zq_model.specs.Image.{image_of, join}
use Rattle.zq_model.specs.Operation.{Operation}
use Rattle.zq_model.specs.Rule.{Rule}
use Rattle.zq_model.specs.Sets.{AreSame, Early, Taken}
use Rattle.zq_notes.specs.Notes.{Answer, Asked, Handed, HandedAll, Joined, Replied, TakenOver, ToCopy, ToDrain, ToMerge, ToPortion, ToRun, ToShow, ToTake, ToTakeAll, ToTakeOver, ToTell}
use Rattle.zq_notes.specs.Sites.{Event, has_at, made_of}
use Rattle.zq_semantics.specs.Plan.{is_there}
use Rattle.zq_semantics.specs.Doing.{drawn}
use Rattle.zq_semantics.specs.Events as runs
use Rattle.zq_semantics.specs.Events.{Do, Merge, Run, Take, answer_to, set_at}
use Rattle.zq_semantics.specs.Reading.{heaps_in, queues_over}
use Rattle.zq_semantics.specs.Runs.{IsPlayable, after_event, run, run_on, start}
use Rattle.zq_shard.specs.Taken.{answer_of}
use Rattle.zq_words.specs.Command.{Command, Zpopmin, Zpopnear, command_of}
use Rattle.zq_words.specs.Words.{Word}

-- ---- one call

-- a ZPOPNEAR that held all heaps, though one of the two that it drew has a member of the key in
-- this set: it may have come since these two were held
pub record IsPassedOver (rule : Rule) (K : ℕ) (S : List Operation) (w1 w2 : ℕ) (heaps : List ℕ)
    (command : Command) : Type 0 where
  pub key : Word
  pub is : command ≡ Zpopnear key
  pub all : heaps ≡ heaps_in K
  pub some : is_there (queues_over rule S (drawn K w1 w2) key) ≡ true

-- what the event of a call asks: the command, or ZPOPMIN with count 1 for such a ZPOPNEAR
pub data IsAskedAs (rule : Rule) (K : ℕ) (S : List Operation) (w1 w2 : ℕ) (heaps : List ℕ)
    (command said : Command) : Type 0 where
  itself : said ≡ command → IsAskedAs rule K S w1 w2 heaps command said
  popped : (over : IsPassedOver rule K S w1 w2 heaps command) → said ≡ Zpopmin over.key (pos 1) →
      IsAskedAs rule K S w1 w2 heaps command said

-- what a call of the site s was asked and answered is this event of the run, which came so far: the
-- same command with the same drawn words, and the same reply; the same operation, taken alike; the
-- image of the same heap that the other site had at that moment, or that both have together. What
-- asks several things at once is no event
abbrev pub IsPlayedAs : Rule → ℕ → Run → ℕ → List ℕ → Asked → Answer → runs.Event → Type 0
IsPlayedAs rule K r s heaps (ToRun command w1 w2) (Replied reply) (Do site words v1 v2) =
    (site ≡ s) × (v1 ≡ w1) × (v2 ≡ w2)
    × ((said : Command) × (command_of words ≡ Ok said)
    × IsAskedAs rule K (r.now.sets s) w1 w2 heaps command said)
    × (answer_to rule K r (Do site words v1 v2) ≡ runs.Replied reply)
IsPlayedAs rule K r s heaps (ToTake op) (Handed (Ok taken)) (Take site place) =
    (site ≡ s) × (slice_get r.now.made place ≡ Some op.operation)
    × (answer_to rule K r (Take site place) ≡ runs.Handed (Some (answer_of taken)))
IsPlayedAs rule K r s heaps (ToMerge other) (Joined (Ok done)) (Merge site from heap moment) =
    (site ≡ s) × (heap ≡ other.heap) × (other.image ≡ image_of (set_at r moment from) heap)
IsPlayedAs rule K r s heaps (ToTakeOver other) (TakenOver (Ok done)) (Merge site from heap moment) =
    (site ≡ s) × (heap ≡ other.heap)
    × (other.image ≡ join (image_of (r.now.sets s) heap) (image_of (set_at r moment from) heap))
IsPlayedAs rule K r s heaps asked answer event = ⊥

-- a call that only reads books is no event, nor is one that tells a book what was handed on
abbrev pub IsNone : Asked → Type 0
IsNone (ToTell heap vector) = Unit {0}
IsNone (ToCopy heap) = Unit {0}
IsNone (ToPortion heap spot limits) = Unit {0}
IsNone (ToShow heap) = Unit {0}
IsNone (ToDrain heap vector most) = Unit {0}
IsNone asked = ⊥

-- these events hand the site s these operations in turn, and it answers of none that it is early
abbrev pub AreTakes : Rule → ℕ → Run → ℕ → List Placed → List runs.Event → Type 0
AreTakes rule K r s [] [] = Unit {0}
AreTakes rule K r s (op ∷ ops) (Take site place ∷ events) =
    (site ≡ s) × (slice_get r.now.made place ≡ Some op.operation)
    × ((taken : Taken) × (taken ≢ Early)
    × (answer_to rule K r (Take site place) ≡ runs.Handed (Some taken)))
    × AreTakes rule K (after_event rule K r (Take site place)) s ops events
AreTakes rule K r s ops events = ⊥

-- what a call of the site s was asked and answered is these events of the run: as many takes as it
-- took of a list of operations, and of any other call one event or none
abbrev pub ArePlayedAs : Rule → ℕ → Run → ℕ → List ℕ → Asked → Answer → List runs.Event → Type 0
ArePlayedAs rule K r s heaps (ToTakeAll heap ops) (HandedAll answer) events =
    AreTakes rule K r s (take answer.taken ops) events
ArePlayedAs rule K r s heaps asked answer [] = IsNone asked
ArePlayedAs rule K r s heaps asked answer (event ∷ []) =
    IsPlayedAs rule K r s heaps asked answer event
ArePlayedAs rule K r s heaps asked answer events = ⊥

abbrev pub IsPlayed : Rule → ℕ → Run → Event → List runs.Event → Type 0
IsPlayed rule K r e events =
    ArePlayedAs rule K r e.site e.call.note.heaps e.call.note.asked e.call.note.answer events

-- ---- several calls

-- the events of a run, one after the other
abbrev pub events_in : List (List runs.Event) → List runs.Event
events_in [] = []
events_in (events ∷ plays) = events ++ events_in plays

-- for each call the run's events that it is
abbrev pub ArePlayed : Rule → ℕ → Run → List Event → List (List runs.Event) → Type 0
ArePlayed rule K r [] [] = Unit {0}
ArePlayed rule K r (e ∷ events) (played ∷ plays) =
    IsPlayed rule K r e played × ArePlayed rule K (run_on rule K played r) events plays
ArePlayed rule K r events plays = ⊥

-- the calls of these events are such a run, of so many sites: what is made there is what the sites
-- made, and after each call each site has there what it has
pub record IsPlay (rule : Rule) (K count : ℕ) (events : List Event)
    (plays : List (List runs.Event)) : Type 0 where
  pub playable : IsPlayable rule K count (events_in plays)
  pub calls : ArePlayed rule K start events plays
  pub made : AreSame (run rule K (events_in plays)).now.made (made_of events)
  pub sets : (before after : List Event) → events ≡ before ++ after → (s : ℕ) →
      AreSame ((run rule K (events_in (take (length before) plays))).now.sets s)
      (has_at (made_of events) s before)
