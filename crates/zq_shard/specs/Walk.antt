-- What a walk over the members of a heap promises while the heap changes.

use Rattle.std.specs.FinMap.{get}
use Rattle.std.specs.Prelude.{List, Some, [], false, length, map, reverse, true, ℕ, ◌++◌, ◌≡◌, ◌≤◌, ◌⊎◌}
use Rattle.zq_model.specs.Entry.{Addition}
use Rattle.zq_model.specs.Image.{Entry, Image, Members, Place, addition_at, entry_at, image_after}
use Rattle.zq_model.specs.Operation.{Operation, has}
use Rattle.zq_model.specs.Sets.{IsIn}
use Rattle.zq_shard.specs.Queues.{Keyed}
use Rattle.zq_shard.specs.Listed.{lent_place}
use Rattle.zq_shard.specs.Standing.{IsEnd, IsNoHigher, Order, StandsAt, left}
use Rattle.zq_shard.specs.declared.row.RowRef.{RowRef}
use Rattle.zq_shard.specs.declared.spot.Spot.{Spot}

-- each member of old that new still has stands there no higher than it stood
abbrev pub Sinks : Keyed → Keyed → Type 0
Sinks old new = (q : Place) (entry : Entry) (key member : ℕ) → StandsAt old.order q key member →
    get new.members q ≡ Some entry →
    (k : ℕ) × ((m : ℕ) × (IsNoHigher k m key member × StandsAt new.order q k m))

-- each member stands somewhere
abbrev pub AllStand : Members → Order → Type 0
AllStand members order = (q : Place) (entry : Entry) → get members q ≡ Some entry →
    (key : ℕ) × ((member : ℕ) × StandsAt order q key member)

abbrev pub AreStanding : Keyed → Type 0
AreStanding s = AllStand s.members s.order

-- by an order in which all members stand, the rows are those that are left at the first spot and no
-- more at the next, the last one first, each with the entry of its member
pub record IsPiece (a : Image) (spot : Spot) (rows : List RowRef) (next : Spot) : Type 0 where
  pub order : Order
  pub all : AllStand a.members order
  pub parts : left order spot ≡ left order next ++ reverse (map lent_place rows)
  pub entries : map (λ row. get a.members (lent_place row)) rows
      ≡ map (λ row. Some row.entry.now) rows

-- the vector has the dot of one of the member's additions
pub record HasOld (v : List ℕ) (members : Members) (q : Place) : Type 0 where
  pub site : ℕ
  pub addition : Addition
  pub stands : addition_at (entry_at members q) site ≡ Some addition
  pub old : has v site addition.n ≡ true

-- each member with an addition that the vector has was sent, or is left at the spot
abbrev pub IsPromised : List ℕ → List Place → Keyed → Spot → Type 0
IsPromised v sent s spot = (q : Place) → HasOld v s.members q →
    IsIn q sent ⊎ IsIn q (left s.order spot)

-- ---- what is proved of it

-- above all keys nothing has to be sent yet
abbrev pub BeginsWhole : Type 0
BeginsWhole = (v : List ℕ) (s : Keyed) (spot : Spot) → AreStanding s → length s.order ≤ spot.key →
    IsPromised v [] s spot

-- a change by which members sink, and no other member comes to have an old addition, keeps it
abbrev pub StaysKept : Type 0
StaysKept = (v : List ℕ) (sent : List Place) (old new : Keyed) (spot : Spot) → Sinks old new →
    ((q : Place) → HasOld v new.members q → HasOld v old.members q) →
    IsPromised v sent old spot → IsPromised v sent new spot

-- an operation whose dot the vector has not gives no member an old addition
abbrev pub AddsNoneOld : Type 0
AddsNoneOld = (v : List ℕ) (o : Operation) (a : Image) (q : Place) → has v o.site o.n ≡ false →
    HasOld v (image_after o a).members q → HasOld v a.members q

-- what is handed out from one spot to the next counts as sent
abbrev pub MovesDown : Type 0
MovesDown = (v : List ℕ) (sent handed : List Place) (s : Keyed) (spot next : Spot) →
    left s.order spot ≡ left s.order next ++ handed →
    IsPromised v sent s spot → IsPromised v (sent ++ handed) s next

-- at the end each member with an old addition was sent
abbrev pub EndsWhole : Type 0
EndsWhole = (v : List ℕ) (sent : List Place) (s : Keyed) (spot : Spot) → IsEnd spot →
    IsPromised v sent s spot → (q : Place) → HasOld v s.members q → IsIn q sent
