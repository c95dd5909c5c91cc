use Rattle.zq_links.proofs.PiecesAgain.{piece_again, piece_same}
use Rattle.zq_links.proofs.piece_laws.piece_has_one_spelling.Goals as goal

pub returns-clause-again : goal.returns-clause-again
returns-clause-again c = piece_again

pub returns-clause-same : goal.returns-clause-same
returns-clause-same c = piece_same
