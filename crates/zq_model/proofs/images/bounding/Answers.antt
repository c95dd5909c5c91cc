use Rattle.zq_model.proofs.Bounds.{within_sum_at}
use Rattle.zq_model.proofs.images.bounding.Goals as goal

pub returns : goal.returns
returns c = within_sum_at
