use Rattle.zq_fields.proofs.PartsAgain.{text_read}
use Rattle.zq_fields.proofs.part_laws.text_again.Goals as goal

pub returns : goal.returns
returns c = text_read
