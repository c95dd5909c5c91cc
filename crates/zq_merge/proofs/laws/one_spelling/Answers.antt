use Rattle.zq_merge.proofs.AgainStates.{same_again, state_again}
use Rattle.zq_merge.proofs.laws.one_spelling.Goals as goal

pub returns-clause-again : goal.returns-clause-again
returns-clause-again c = state_again

pub returns-clause-newest : goal.returns-clause-newest
returns-clause-newest c s = (tt, tt)

pub returns-clause-same : goal.returns-clause-same
returns-clause-same c = same_again
