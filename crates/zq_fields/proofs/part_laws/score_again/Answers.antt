use Rattle.zq_fields.proofs.PartsAgain.{score_read}
use Rattle.zq_fields.proofs.part_laws.score_again.Goals as goal

pub returns : goal.returns
returns c = score_read
