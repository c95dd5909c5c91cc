use Rattle.zq_keeper.specs.Keeper.{GoesOn}
use Rattle.keeper_tests.proofs.crashes.play_on.Given as goal

abbrev pub invariant-loop-number : goal.invariant-loop-number
invariant-loop-number g l = GoesOn g.D.Disk.seen g.D.Disk.staged g.D.Disk.may_leave l.keeper
