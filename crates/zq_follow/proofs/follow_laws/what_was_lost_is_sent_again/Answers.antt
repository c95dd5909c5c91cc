use Rattle.zq_follow.proofs.Learnt.{lost_is_sent_again}
use Rattle.zq_follow.proofs.follow_laws.what_was_lost_is_sent_again.Goals as goal

pub returns : goal.returns
returns c = lost_is_sent_again
