-- What a world has after some events.

use Rattle.std.specs.Prelude.{List, Some, Vec, [], length, map, option_map, slice_get, ℕ, ◌++◌, ◌∷◌, ◌≡◌, ◌≤◌}
use Rattle.std.specs.declared.alloc.Global.{Global}
use Rattle.zq_dots.specs.Placed.{Placed}
use Rattle.zq_model.specs.Books.{Book}
use Rattle.zq_model.specs.Rule.{Rule}
use Rattle.zq_resp.specs.Reply.{reply_bytes}
use Rattle.zq_resp.specs.declared.reply.Reply.{Reply}
use Rattle.zq_semantics.specs.Books.{AreBooksOf}
use Rattle.zq_semantics.specs.Doing.{Done}
use Rattle.zq_semantics.specs.Events as runs
use Rattle.zq_semantics.specs.Runs.{IsPlayable, run}
use Rattle.zq_semantics.specs.State.{State}
use Rattle.zq_shard.specs.Taken.{answer_of}
use Rattle.zq_world.specs.Frames.{placed}
use Rattle.zq_world.specs.declared.answer.Answer.{Answer}
use Rattle.zq_world.specs.declared.answer.Answer.TheVariants as answer
use Rattle.zq_world.specs.declared.event.Event.{Event}
use Rattle.zq_world.specs.declared.event.Event.TheVariants as event
use Rattle.zq_world.specs.declared.player.Player.{Player}

-- an event, by the words of its request
abbrev pub event_of : Event → runs.Event
event_of (event.Do site request w1 w2) = runs.Do site request w1 w2
event_of (event.Take site op) = runs.Take site op
event_of (event.Merge site from heap moment) = runs.Merge site from heap moment

abbrev pub answer_in : Answer → runs.Answer
answer_in (answer.Replied bytes) = runs.Replied bytes.items
answer_in (answer.Handed taken) = runs.Handed (option_map answer_of taken)
answer_in answer.Merged = runs.Merged

-- a world of so many sites of so many heaps, and the events that it has played
pub record Played : Type 0 where
  pub rule : Rule
  pub heaps : ℕ
  pub sites : ℕ
  pub events : List runs.Event

abbrev pub run_of : Played → runs.Run
run_of played = run played.rule played.heaps played.events

-- with one event more
abbrev pub after : Played → runs.Event → Played
after played e = record played { events = played.events ++ e ∷ [] }

-- the books of each site are those of the state, and the list of what was made is the state's
pub record Stands (rule : Rule) (K sites : ℕ) (st : State) (books : List (Vec Book Global))
    (made : List Placed) : Type 0 where
  pub number : length books ≡ sites
  pub each : (site : ℕ) (its : Vec Book Global) → slice_get books site ≡ Some its →
      AreBooksOf rule K st site its.items
  pub told : made ≡ map (placed K) st.made

-- what was played can be, and left this; there are the two heaps that ZPOPNEAR draws
pub record Holds (played : Played) (player : Player) : Type 0 where
  pub two : 2 ≤ played.heaps
  pub playable : IsPlayable played.rule played.heaps played.sites played.events
  pub stands : Stands played.rule played.heaps played.sites
      (run_of played).now player.sites.items player.made.items
  pub answers : map answer_in player.answers.items ≡ (run_of played).answers

-- what a command made of a site, and its reply
pub record IsDone (played : Played) (done : Done) (player : Player) (reply : Reply) : Type 0 where
  pub stands : Stands played.rule played.heaps played.sites done.now player.sites.items
      player.made.items
  pub says : reply_bytes reply ≡ done.reply
