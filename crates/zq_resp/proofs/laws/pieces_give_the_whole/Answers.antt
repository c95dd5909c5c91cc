use Rattle.zq_resp.proofs.Streams.{pieces_give}
use Rattle.zq_resp.proofs.laws.pieces_give_the_whole.Goals as goal

pub returns : goal.returns
returns c = pieces_give
