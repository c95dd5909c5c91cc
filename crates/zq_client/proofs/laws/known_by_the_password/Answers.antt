use Rattle.zq_client.proofs.Knowing.{known_by_it}
use Rattle.zq_client.proofs.laws.known_by_the_password.Goals as goal

pub returns : goal.returns
returns c = known_by_it
