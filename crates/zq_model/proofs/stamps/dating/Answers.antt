use Rattle.zq_model.proofs.Dates.{stamp_within, stamps_in_order}
use Rattle.zq_model.proofs.stamps.dating.Goals as goal

pub returns-clause-earlier : goal.returns-clause-earlier
returns-clause-earlier c b i j r s is = stamps_in_order 0 b.stamp b.tail i j r s is.stamps

pub returns-clause-newest : goal.returns-clause-newest
returns-clause-newest c b i r is at = (stamp_within 0 b.stamp b.tail i r is.stamps at).1
