use Rattle.zq_keeper.proofs.Reading.{are_taken, says_that}
use Rattle.zq_keeper.proofs.laws.kept_is_read.Goals as goal

pub returns : goal.returns
returns c = record { taken = are_taken; says = says_that }
