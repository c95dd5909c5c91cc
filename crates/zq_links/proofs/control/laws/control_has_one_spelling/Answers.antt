use Rattle.zq_links.proofs.ControlAgain.{control_again, control_same}
use Rattle.zq_links.proofs.control.laws.control_has_one_spelling.Goals as goal

pub returns-clause-again : goal.returns-clause-again
returns-clause-again c = control_again

pub returns-clause-same : goal.returns-clause-same
returns-clause-same c = control_same
