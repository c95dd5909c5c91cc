-- The rows that are left of either form of the members of a key.

use Rattle.std.specs.Prelude.{List, map, ℕ}
use Rattle.zq_model.specs.Image.{Entry}
use Rattle.zq_queue.specs.Built.{row_pair}
use Rattle.zq_queue.specs.Few.{rows_of}
use Rattle.zq_queue.specs.declared.each.Left.{Left}
use Rattle.zq_queue.specs.declared.each.Left.TheVariants.{Few, Many}

abbrev pub rows_left : Left → List (Entry × List ℕ)
rows_left (Few list) = rows_of list.now
rows_left (Many pairs) = map row_pair pairs
