use Rattle.zq_entries.proofs.Again.{entry_again, entry_same}
use Rattle.zq_entries.proofs.laws.entry_has_one_spelling.Goals as goal

pub returns-clause-again : goal.returns-clause-again
returns-clause-again c = entry_again c.piece_has_one_spelling.ensures.again

pub returns-clause-same : goal.returns-clause-same
returns-clause-same c = entry_same c.piece_has_one_spelling.ensures.again
