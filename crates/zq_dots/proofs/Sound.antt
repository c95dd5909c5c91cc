-- An operation that lies where its hash says is one of the model.

use Rattle.std.proofs.Common.{◌≡◌}
use Rattle.zq_dots.specs.Placed.{IsRanged, Placed}
use Rattle.zq_model.specs.Heaps.{heap_of}
use Rattle.zq_model.specs.Sets.{IsOperation}

pub is_operation : (p : Placed) → IsRanged p → p.operation.heap ≡ heap_of p.operation.key p.operation.member p.heaps → IsOperation p.heaps p.operation
is_operation p sound placed = record {
  heaps = sound.heaps;
  act = sound.act;
  heap = placed;
  site = sound.site;
  seen = sound.seen;
  next = sound.next;
  bounded = sound.bounded;
}
