use Rattle.zq_model.proofs.Named.{queue_named, score_named}
use Rattle.zq_model.proofs.meanings.naming.Goals as goal

pub returns : goal.returns
returns c = record { queue = queue_named; score = score_named }
