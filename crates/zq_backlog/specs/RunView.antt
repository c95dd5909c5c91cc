-- The fields of a run, as texts.

use Rattle.std.specs.Prelude.{List, length, ℕ}
use Rattle.zq_backlog.specs.Run.{AreEnds, cut}
use Rattle.zq_backlog.specs.declared.run.Run.TheInside.{Inside}

abbrev pub texts_of : Inside → List (List ℕ)
texts_of r = cut 0 r.ends.items r.bytes.items

-- the bytes of the texts, and no others, lie in the run
pub record IsRun (r : Inside) : Type 0 where
  pub ends : AreEnds 0 r.ends.items (length r.bytes.items)
