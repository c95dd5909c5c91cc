use Rattle.zq_model.proofs.Covered.{reached_covers, reached_knows}
use Rattle.zq_model.proofs.reach.growing.Goals as goal

pub returns-clause-covers : goal.returns-clause-covers
returns-clause-covers c = reached_covers

pub returns-clause-knows : goal.returns-clause-knows
returns-clause-knows c = reached_knows
