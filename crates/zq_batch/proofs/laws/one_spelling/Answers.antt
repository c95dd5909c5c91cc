use Rattle.zq_batch.proofs.Batches.{batch_again, same_again}
use Rattle.zq_batch.proofs.laws.one_spelling.Goals as goal

pub returns-clause-again : goal.returns-clause-again
returns-clause-again c = batch_again

pub returns-clause-same : goal.returns-clause-same
returns-clause-same c = same_again
