-- What the files of a log have and may leave, by the calls that were made of them.

use Rattle.std.specs.Prelude.{List, ℕ}
use Rattle.zq_wal_file.specs.Events.{IsAtEnd, MayLeave, replay}
use Rattle.zq_wal_file.specs.declared.disk.FileDisk.{FileDisk}
use Rattle.zq_wal_file.specs.declared.disk.FoundLog.{FoundLog}

-- what was read of a log
abbrev pub given_of : {R A : Type 0} → FoundLog R A → List ℕ
given_of found = (replay found.record.events).seen

-- what a log has, and what a crash may leave of it
abbrev pub seen_of : {R A : Type 0} → FileDisk R A → List ℕ
seen_of disk = (replay disk.record.events).seen

abbrev pub left_of : {R A : Type 0} → FileDisk R A → List ℕ → Type 0
left_of disk c = MayLeave disk.record.events c

-- a log was read to its end
abbrev pub IsRead : {R A : Type 0} → FoundLog R A → Type 0
IsRead found = IsAtEnd found.record.events
