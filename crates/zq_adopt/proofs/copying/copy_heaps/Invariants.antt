use Rattle.zq_adopt.proofs.copying.copy_heaps.Given as goal
use Rattle.zq_keeper.specs.Keeper.{GoesOn}

abbrev pub invariant-loop-stage : goal.invariant-loop-stage
invariant-loop-stage g l = GoesOn g.D.Disk.seen g.D.Disk.staged g.D.Disk.may_leave l.keeper
