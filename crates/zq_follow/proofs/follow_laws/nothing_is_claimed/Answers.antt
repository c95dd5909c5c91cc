use Rattle.zq_follow.proofs.Learnt.{nothing_is_claimed}
use Rattle.zq_follow.proofs.follow_laws.nothing_is_claimed.Goals as goal

pub returns : goal.returns
returns c = nothing_is_claimed
