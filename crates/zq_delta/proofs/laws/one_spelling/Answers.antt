use Rattle.zq_delta.proofs.Again.{found_again, same_again}
use Rattle.zq_delta.proofs.laws.one_spelling.Goals as goal

pub returns-clause-again : goal.returns-clause-again
returns-clause-again c = found_again

pub returns-clause-newest : goal.returns-clause-newest
returns-clause-newest c o sound = (sound.site, tt)

pub returns-clause-same : goal.returns-clause-same
returns-clause-same c = same_again
