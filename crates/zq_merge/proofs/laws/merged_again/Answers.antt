use Rattle.zq_merge.proofs.AgainStates.{merged_same}
use Rattle.zq_merge.proofs.laws.merged_again.Goals as goal

pub returns : goal.returns
returns c = merged_same
