use Rattle.std.proofs.Common.{inl, inr}
use Rattle.zq_log.proofs.intake.put_line.Goals as goal

pub returns-in-Ok : goal.returns-in-Ok
returns-in-Ok c =
    elim c.put.ensures.one [
      | inl waits ↦ inl (c.in-Ok.line.items, (c.stamp_of.result, c.stamp_of.ensures, c.in-Ok.ensures), waits)
      | inr lost ↦ inr lost
    ]

pub returns-in-Err : goal.returns-in-Err
returns-in-Err c = inr c.lose.ensures
