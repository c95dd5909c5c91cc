-- What the type of parked operations keeps.

use Rattle.std.specs.BTreeMap.{btree_map_len}
use Rattle.std.specs.Prelude.{false, slice_index_or, true, ◌≡◌, ◌≤◌}
use Rattle.zq_dots.specs.Placed.{Placed}
use Rattle.zq_node.specs.Parked.{ArePlaced, IsParked}
use Rattle.zq_node.specs.declared.parked.Parked.TheInside.{Inside}

-- each lies at its place, and its counter is the next of its site, which is one that may have
-- operations here; they are no more than there may be
pub record IsInside (p : Inside) : Type 0 where
  pub placed : ArePlaced p.ops.entries
  pub sites : (o : Placed) → IsParked p.ops.entries o →
      slice_index_or p.sites o.operation.site false ≡ true
  pub few : btree_map_len p.ops ≤ p.most
