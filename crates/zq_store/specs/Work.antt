-- What was done on a site's disk.

use Rattle.std.specs.Prelude.{min, ℕ, ◌-◌, ◌^◌}
use Rattle.zq_keeper.specs.declared.size.Size.{Size}
use Rattle.zq_metrics.specs.Durations.{none}
use Rattle.zq_metrics.specs.Timing.{both}
use Rattle.zq_store.specs.declared.work.Work.{Work}

-- as much of a number as 64 bits have
abbrev pub within_64_bits : ℕ → ℕ
within_64_bits number = min number (2 ^ 64 - 1)

-- nothing yet, at files that are so long
abbrev pub none_at : Size → Work
none_at size = record { syncs = none; written = 0; switches = 0; seen = size }

-- what the files have more than as they were looked at last was written
abbrev pub grown : Size → Work → Work
grown size work = record work {
  written = both (both work.written (size.log - work.seen.log)) (size.next - work.seen.next);
  seen = size;
}

-- the next file is begun
abbrev pub begun : Work → Work
begun work = record work { seen = record work.seen { next = 0 } }

-- the next file has taken the log's place
abbrev pub switched : Size → Work → Work
switched size work = record work { switches = both work.switches 1; seen = size }
