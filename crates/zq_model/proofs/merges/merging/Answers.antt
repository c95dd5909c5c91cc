use Rattle.zq_model.proofs.JoinImages.{join-union, join_grouped, join_itself, join_turned}
use Rattle.zq_model.proofs.Same.{image_of-same}
use Rattle.zq_model.proofs.merges.merging.Goals as goal

pub returns : goal.returns
returns c = record {
  union = join-union;
  commutes = join_turned;
  once = join_itself;
  groups = join_grouped;
  same = image_of-same;
}
