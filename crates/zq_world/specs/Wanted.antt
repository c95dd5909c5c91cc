-- The places of merges among events, by their moments.

use Rattle.std.specs.Prelude.{List, Some, Vec, [], length, map, slice_get, ℕ, ◌++◌, ◌<◌, ◌∷◌, ◌≡◌}
use Rattle.std.specs.declared.alloc.Global.{Global}
use Rattle.zq_model.specs.Sets.{IsIn}
use Rattle.zq_semantics.specs.Events.{Event, Merge}

abbrev pub places_in : List (Vec ℕ Global) → List (List ℕ)
places_in wanted = map (λ places. places.items) wanted

-- the merges before the limit are found at their moments, where these are among those that are
-- listed, and nothing is found but places of events
pub record AreWanted (limit : ℕ) (events : List Event) (wanted : List (List ℕ)) : Type 0 where
  pub each : (place site from heap moment : ℕ) (places : List ℕ) → place < limit →
      slice_get events place ≡ Some (Merge site from heap moment) →
      slice_get wanted moment ≡ Some places → IsIn place places
  pub inside : (moment place : ℕ) (places : List ℕ) → slice_get wanted moment ≡ Some places →
      IsIn place places → place < length events

-- a place more stands at the moment, if that is among those that are listed
pub record IsWith (moment place : ℕ) (old new : List (List ℕ)) : Type 0 where
  pub number : length new ≡ length old
  pub here : (places : List ℕ) → slice_get old moment ≡ Some places →
      slice_get new moment ≡ Some (places ++ place ∷ [])
  pub others : (other : ℕ) → (other ≡ moment → ⊥) → slice_get new other ≡ slice_get old other
