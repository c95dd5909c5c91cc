use Rattle.zq_batch.proofs.Batches.{no_gap}
use Rattle.zq_batch.proofs.laws.no_gaps.Goals as goal

pub returns : goal.returns
returns c = no_gap
