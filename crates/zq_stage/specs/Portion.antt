-- A portion of a heap that a walk hands out, and how much it may have.

use Rattle.std.specs.FinMap.{get}
use Rattle.std.specs.List.{sum}
use Rattle.std.specs.Prelude.{List, None, [], length, map, reverse, ℕ, ◌*◌, ◌+◌, ◌++◌, ◌<◌, ◌≡◌, ◌≤◌, ◌⊎◌}
use Rattle.zq_entry.specs.Placed.{placed_of}
use Rattle.zq_model.specs.Image.{Entry, Members, Place, entry_at}
use Rattle.zq_model.specs.Sets.{IsIn}
use Rattle.zq_shard.specs.Listed.{lent_place}
use Rattle.zq_shard.specs.Shard.{HeapImage, IsSameHeap}
use Rattle.zq_shard.specs.Standing.{IsEnd, Order, left}
use Rattle.zq_shard.specs.Walk.{AllStand}
use Rattle.zq_shard.specs.declared.row.RowRef.{RowRef}
use Rattle.zq_shard.specs.declared.spot.Spot.{Spot}
use Rattle.zq_stage.specs.declared.portion.PortionLimits.{PortionLimits}

-- what a member counts for beside its names, and each of its additions: no frame takes more for them
unfoldable pub ROW_BYTES : ℕ
ROW_BYTES = 32

unfoldable pub ADDITION_BYTES : ℕ
ADDITION_BYTES = 1106

-- what a member with this entry counts for
abbrev pub weight_of : Place → Entry → ℕ
weight_of q entry =
    length q.0 + length q.1 + ROW_BYTES + ADDITION_BYTES * length (placed_of entry)

abbrev pub weight_at : Members → Place → ℕ
weight_at members q = weight_of q (entry_at members q)

-- what a row counts for that is lent
abbrev pub lent_weight : RowRef → ℕ
lent_weight row = weight_of (lent_place row) row.entry.now

-- By an order in which all members of the heap stand, these are left at the first spot and no more
-- at the next, the last one first. They are no more than the limits allow, but for one that is
-- alone; and there is one, unless none is left.
pub record AreHanded (s : HeapImage) (spot : Spot) (limits : PortionLimits) (handed : List Place)
    (next : Spot) : Type 0 where
  pub order : Order
  pub all : AllStand s.image.members order
  pub parts : left order spot ≡ left order next ++ reverse handed
  pub few : length handed ≤ limits.rows
  pub light : (length handed ≤ 1) ⊎ (sum (map (weight_at s.image.members) handed) ≤ limits.bytes)
  pub some : 0 < limits.rows → handed ≡ [] → IsEnd next

-- the part is the heap with these members alone: it has the heap's vector, and of each of them what
-- the heap has
pub record IsPortion (s : HeapImage) (spot : Spot) (limits : PortionLimits) (part : HeapImage)
    (next : Spot) : Type 0 where
  pub same : IsSameHeap s part
  pub rule : part.rule ≡ s.rule
  pub vector : part.image.vector ≡ s.image.vector
  pub handed : List Place
  pub walked : AreHanded s spot limits handed next
  pub brought : (q : Place) → IsIn q handed →
      get part.image.members q ≡ get s.image.members q
  pub others : (q : Place) → (IsIn q handed → ⊥) → get part.image.members q ≡ None
