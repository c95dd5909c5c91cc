use Rattle.zq_links.proofs.Again.{frame_again}
use Rattle.zq_links.proofs.Same.{has_newest, newest_value, same_again}
use Rattle.zq_links.proofs.frame_laws.one_spelling.Goals as goal

pub returns-clause-again : goal.returns-clause-again
returns-clause-again c = frame_again

pub returns-clause-newest : goal.returns-clause-newest
returns-clause-newest c = has_newest

pub returns-clause-value : goal.returns-clause-value
returns-clause-value c = newest_value

pub returns-clause-same : goal.returns-clause-same
returns-clause-same c = same_again
