use Rattle.zq_recovery.proofs.World.{makes, merges, others}
use Rattle.zq_recovery.proofs.laws.going_on.Goals as goal

pub returns-clause-makes : goal.returns-clause-makes
returns-clause-makes c = λ K site V T o on is mine. makes K site V T on o is mine

pub returns-clause-merges : goal.returns-clause-merges
returns-clause-merges c = λ K site V T U on inside closed. merges K site V T on U inside closed

pub returns-clause-others : goal.returns-clause-others
returns-clause-others c = λ K site V T o on world other. others K site V T on o world other
