use Rattle.zq_model.proofs.Read.{read_score}
use Rattle.zq_model.proofs.readings.scoring.Goals as goal

pub returns : goal.returns
returns c = read_score
