use Rattle.zq_model.specs.Image.{join}
use Rattle.zq_model.proofs.JoinDetermined.{join_is, join_of_one}
use Rattle.zq_model.proofs.joins.join_is_determined.Goals as goal

pub returns-clause-is : goal.returns-clause-is
returns-clause-is c = join_is

pub returns-clause-one : goal.returns-clause-one
returns-clause-one c a b d p q h = join_of_one a b d (join a b) h (join_is a b p q)
