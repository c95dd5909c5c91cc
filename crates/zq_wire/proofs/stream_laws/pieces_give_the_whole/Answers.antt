use Rattle.zq_wire.proofs.StreamRuns.{pieces_give}
use Rattle.zq_wire.proofs.stream_laws.pieces_give_the_whole.Goals as goal

pub returns : goal.returns
returns c = pieces_give
