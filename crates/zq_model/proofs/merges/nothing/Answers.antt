use Rattle.zq_model.proofs.JoinImages.{image_of-nothing}
use Rattle.zq_model.proofs.merges.nothing.Goals as goal

pub returns : goal.returns
returns c = image_of-nothing
