use Rattle.zq_log.proofs.Limits as limits
use Rattle.zq_log.proofs.laws.at_most_ten.Goals as goal

pub returns : goal.returns
returns c = limits.at_most_ten
