use Rattle.zq_model.specs.Rows.{rows_of}
use Rattle.zq_stage.proofs.Stages.{begins}
use Rattle.zq_stage.proofs.Streams.{stream}
use Rattle.zq_stage.proofs.laws.streaming.Goals as goal

pub returns : goal.returns
returns c = λ W T first heard world within piece fit.
    stream W first.image.vector heard (rows_of first.image) T first world within (begins T first piece) fit
