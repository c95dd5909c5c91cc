-- What a book keeps of its records.

use Rattle.std.specs.List.{All}
use Rattle.std.specs.Prelude.{List, Option, ℕ, ◌≤◌}
use Rattle.zq_model.specs.Books.{IsBook}
use Rattle.zq_model.specs.Limits.{TailLimits}
use Rattle.zq_model.specs.Undoing.{AreKept}
use Rattle.zq_journal.specs.Books.{LAST_STAMP, book_over}
use Rattle.zq_journal.specs.Records.{IsRecord, Record, leaves_of}
use Rattle.zq_model.specs.Bounded.{IsBounded}
use Rattle.zq_shard.specs.Shard.{HeapImage}

-- the records lead from the base, whose vector is v, to the heap, each with what its member had
-- where it came; the base keeps its bounds, and the numbers are in range
pub record IsStanding (s : HeapImage) (v : List ℕ) (records : List Record) (limits : TailLimits)
    (handed : Option ℕ) (stamp count : ℕ) : Type 0 where
  pub book : IsBook (book_over s v (leaves_of records) limits handed stamp count)
  pub kept : AreKept (leaves_of records)
      (book_over s v (leaves_of records) limits handed stamp count).base
  pub bounded : IsBounded s.heaps s.heap
      (book_over s v (leaves_of records) limits handed stamp count).base
  pub each : All (IsRecord s.heap s.heaps) records
  pub last_stamp : stamp ≤ LAST_STAMP
  pub last_count : count ≤ LAST_STAMP
