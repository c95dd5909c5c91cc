-- The frames of images that later merges name.

use Rattle.std.specs.Prelude.{List, Ok, Some, slice_get, true, ℕ, ◌<◌, ◌≡◌, ◌≤◌}
use Rattle.zq_merge.specs.State.{state_at}
use Rattle.zq_semantics.specs.Events.{Do, Event, Merge, Take, is_possible, set_at}
use Rattle.zq_world.specs.Frames.{heap_at}
use Rattle.zq_world.specs.Play.{Holds, Played, run_of}
use Rattle.zq_world.specs.declared.player.Player.{Player}

-- where the event merges an image that stood at a moment before the limit, these bytes are its
-- frame
abbrev pub IsReady : Played → ℕ → Event → List ℕ → Type 0
IsReady played limit (Do site words w1 w2) bytes = Unit {0}
IsReady played limit (Take site op) bytes = Unit {0}
IsReady played limit (Merge site from heap moment) bytes =
    moment < limit → from < played.sites → heap < played.heaps →
    state_at bytes ≡ Ok (heap_at played.rule played.heaps
    (set_at (run_of played) moment from) heap)

-- for each event from a place on there is a frame, if it merges an image that stood before the
-- limit
pub record AreReady (played : Played) (limit first : ℕ) (events : List Event)
    (frames : List (List ℕ)) : Type 0 where
  pub each : (place : ℕ) (e : Event) (bytes : List ℕ) → first ≤ place →
      slice_get events place ≡ Some e → slice_get frames place ≡ Some bytes →
      IsReady played limit e bytes

-- the site can merge the image that another had of a heap at a moment, of which these bytes are the
-- frame
pub record IsMergeable (played : Played) (player : Player) (site from heap moment : ℕ)
    (bytes : List ℕ) : Type 0 where
  pub held : Holds played player
  pub possible : is_possible played.heaps played.sites (run_of played) (Merge site from heap moment)
      ≡ true
  pub frame : state_at bytes
      ≡ Ok (heap_at played.rule played.heaps (set_at (run_of played) moment from) heap)
