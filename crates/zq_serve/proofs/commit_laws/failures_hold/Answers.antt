use Rattle.zq_serve.proofs.Tickets.{failures_hold, failures_hold_own}
use Rattle.zq_serve.proofs.commit_laws.failures_hold.Goals as goal

pub returns-clause-failed : goal.returns-clause-failed
returns-clause-failed c = failures_hold

pub returns-clause-own : goal.returns-clause-own
returns-clause-own c = failures_hold_own
