use Rattle.zq_adopt.proofs.Again.{has_made_nothing, is_read_again}
use Rattle.zq_adopt.proofs.laws.adopted_is_read.Goals as goal

pub returns : goal.returns
returns c = record { read = is_read_again; made = has_made_nothing }
