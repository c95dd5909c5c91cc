use Rattle.zq_semantics.proofs.KeptRuns.{closed_at, kept_always, within_at}
use Rattle.zq_semantics.proofs.Moments.{stays}
use Rattle.zq_semantics.specs.Runs.{start}
use Rattle.zq_semantics.proofs.sets.gathering.Goals as goal

pub returns-clause-world : goal.returns-clause-world
returns-clause-world c rule K sites events is = (kept_always rule K sites events is).world

pub returns-clause-short : goal.returns-clause-short
returns-clause-short c rule K sites events is = (kept_always rule K sites events is).short

pub returns-clause-within : goal.returns-clause-within
returns-clause-within c rule K sites events is = within_at rule K sites events is

pub returns-clause-closed : goal.returns-clause-closed
returns-clause-closed c rule K sites events is = closed_at rule K sites events is

pub returns-clause-own : goal.returns-clause-own
returns-clause-own c rule K sites events is = (kept_always rule K sites events is).own

pub returns-clause-stays : goal.returns-clause-stays
returns-clause-stays c rule K events more site o = stays rule K site o events more start
