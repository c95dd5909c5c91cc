use Rattle.zq_stage.proofs.Portions.{portion_of_set}
use Rattle.zq_stage.proofs.laws.portioning.Goals as goal

pub returns : goal.returns
returns c = portion_of_set
