use Rattle.zq_semantics.proofs.KeptRuns.{kept_always}
use Rattle.zq_semantics.proofs.Moments.{known_are, moments_are}
use Rattle.zq_semantics.specs.Runs.{run}
use Rattle.zq_semantics.proofs.sets.telling.Goals as goal

pub returns-clause-moments : goal.returns-clause-moments
returns-clause-moments c rule K events moment site = moments_are rule K events moment site

pub returns-clause-known : goal.returns-clause-known
returns-clause-known c rule K sites events is site = known_are K (run rule K events).past (run rule K events).now (kept_always rule K sites events is) site
