use Rattle.zq_adopt.proofs.copying.copy_pieces.Given as goal
use Rattle.zq_keeper.specs.Keeper.{GoesOn}

abbrev pub invariant-loop : goal.invariant-loop
invariant-loop g l = GoesOn g.D.Disk.seen g.D.Disk.staged g.D.Disk.may_leave l.keeper
