use Rattle.zq_model.proofs.Preferred.{score_best, score_reached}
use Rattle.zq_model.proofs.scores.scoring.Goals as goal

pub returns-clause-reached : goal.returns-clause-reached
returns-clause-reached c = score_reached

pub returns-clause-best : goal.returns-clause-best
returns-clause-best c = score_best
