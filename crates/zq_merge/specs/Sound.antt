-- What each row of a state keeps.

use Rattle.std.specs.Prelude.{length, ◌≡◌, ◌≤◌}
use Rattle.zq_merge.specs.Bounds.{AreAdditionsBounded}
use Rattle.zq_merge.specs.Frame.{Frame}
use Rattle.zq_model.specs.Heaps.{heap_of}
use Rattle.zq_model.specs.Operation.{LONGEST}
use Rattle.zq_model.specs.Rows.{Row}
use Rattle.zq_model.specs.Sets.{SITES}
use Rattle.zq_model.specs.Sparse.{AreBySite}

-- its key and its member are short and lie in the heap, and it has additions by rising site which
-- keep their bounds
pub record IsSoundRow (frame : Frame) (row : Row) : Type 0 where
  pub key : length row.key ≤ LONGEST
  pub member : length row.member ≤ LONGEST
  pub placed : heap_of row.key row.member frame.heap.heaps ≡ frame.heap.heap
  pub some : 1 ≤ length row.additions
  pub by_site : AreBySite 0 SITES row.additions
  pub bounded : AreAdditionsBounded frame.vector row.additions
