use Rattle.zq_wal.specs.Wal.{IsLog}
use Rattle.entries_tests.proofs.recovery.commit_all.Given as goal

abbrev pub invariant-loop-number : goal.invariant-loop-number
invariant-loop-number g l = IsLog g.D.Disk.seen g.D.Disk.staged g.D.Disk.may_leave l.log
