-- The fields of a log, as a log.

use Rattle.std.specs.Prelude.{List, map, ◌≡◌}
use Rattle.zq_backlog.specs.Log.{IsLog, Log}
use Rattle.zq_backlog.specs.Written.{dot_of, read_from, spelling}
use Rattle.zq_backlog.specs.declared.backlog.Backlog.TheInside.{Inside}
use Rattle.zq_dots.specs.Placed.{Placed}

-- its operations, read from their texts
abbrev pub ops_of : Inside → List Placed
ops_of b = map read_from b.texts

abbrev pub log_of : Inside → Log
log_of b = record {
  base = b.base;
  last = b.last;
  ops = ops_of b;
  first = b.first;
  most = b.most;
}

-- the texts are of its operations, and so are the dots
pub record IsKept (b : Inside) : Type 0 where
  pub texts : b.texts ≡ map spelling (ops_of b)
  pub dots : b.dots.items ≡ map dot_of (ops_of b)
  pub log : IsLog (log_of b)
