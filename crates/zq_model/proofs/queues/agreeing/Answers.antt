use Rattle.zq_model.proofs.Agreeing.{same_queues, same_scores}
use Rattle.zq_model.proofs.queues.agreeing.Goals as goal

pub returns-clause-scores : goal.returns-clause-scores
returns-clause-scores c = same_scores

pub returns-clause-queues : goal.returns-clause-queues
returns-clause-queues c = same_queues
