use Rattle.std.proofs.Common.{subst, sym}
use Rattle.zq_keeper.specs.Keeper.{GoesOn}
use Rattle.keeper_tests.proofs.crashes.play_on.Goals as goal
use Rattle.keeper_tests.proofs.crashes.play_on.Goals.{else-loop-number-test, then-loop-number-test+in-Some+in_ok-its+in-Err, then-loop-number-test+in_default}

pub returns : goal.returns
returns g c =
    let P = GoesOn g.D.Disk.seen g.D.Disk.staged g.D.Disk.may_leave in
    elim c.loop-number-test.branch [
      | else-loop-number-test w ↦ subst P (sym w.keeper-is) c.loop-number.invariant
      | then-loop-number-test+in_default w ↦ subst P (sym w.keeper-is) c.loop-number.invariant
      | then-loop-number-test+in-Some+in_ok-its+in-Err w ↦ subst P (sym w.keeper-is) w.step.ensures
    ]
