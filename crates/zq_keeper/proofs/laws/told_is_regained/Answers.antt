use Rattle.zq_keeper.proofs.World.{is_again}
use Rattle.zq_keeper.proofs.laws.told_is_regained.Goals as goal

pub returns : goal.returns
returns c = record { again = is_again }
