use Rattle.std.specs.Prelude.{◌++◌}
use Rattle.zq_model.proofs.Reached.{advanced_reaches, reached_through, touched_reaches, worked_reaches}
use Rattle.zq_model.proofs.reach.reaching.Goals as goal

pub returns-clause-through : goal.returns-clause-through
returns-clause-through k = λ c b a second first. (first.0 ++ second.0, reached_through c b a first.0 second.0 second.1 first.1)

pub returns-clause-works : goal.returns-clause-works
returns-clause-works c = worked_reaches

pub returns-clause-touches : goal.returns-clause-touches
returns-clause-touches c = touched_reaches

pub returns-clause-advances : goal.returns-clause-advances
returns-clause-advances c = advanced_reaches
