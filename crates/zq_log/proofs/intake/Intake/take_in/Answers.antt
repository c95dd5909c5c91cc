use Rattle.std.proofs.Common.{None, Some, refl}
use Rattle.zq_log.proofs.intake.Intake.take_in.Goals as goal

pub returns-in-None : goal.returns-in-None
returns-in-None c = (None, rw c.kind_of.ensures at c.in-None.ensures, refl)

pub returns-in-Some : goal.returns-in-Some
returns-in-Some c = (Some c.in-Some.more, rw c.kind_of.ensures at c.in-Some.ensures, c.put_line.ensures)
