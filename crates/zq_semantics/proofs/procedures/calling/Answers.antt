use Rattle.std.proofs.Common.{refl}
use Rattle.zq_semantics.proofs.procedures.calling.Goals as goal

pub returns-clause-command : goal.returns-clause-command
returns-clause-command c rule site stamp command old new reply = (λ ran. ran, λ ran. ran)

pub returns-clause-alone : goal.returns-clause-alone
returns-clause-alone c rule site stamp p old new reply ran = (new, ran, refl)
