use Rattle.zq_follow.proofs.Beyond.{window_is_kept}
use Rattle.zq_follow.proofs.follow_laws.a_window_is_kept.Goals as goal

pub returns : goal.returns
returns c = window_is_kept
