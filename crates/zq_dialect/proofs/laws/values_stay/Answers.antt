use Rattle.zq_dialect.proofs.Values.{values_stay}
use Rattle.zq_dialect.proofs.Written.{scores_are_read}
use Rattle.zq_dialect.proofs.laws.values_stay.Goals as goal

pub returns-clause-values : goal.returns-clause-values
returns-clause-values c = values_stay

pub returns-clause-scores : goal.returns-clause-scores
returns-clause-scores c = scores_are_read
