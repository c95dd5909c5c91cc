use Rattle.std.proofs.Common.{◌∙◌}
use Rattle.zq_links.proofs.PiecesAgain.{piece_begins}
use Rattle.zq_links.proofs.piece.is_piece.Goals as goal

pub returns-clause-piece : goal.returns-clause-piece
returns-clause-piece c = λ p is. c.begins_as_piece.ensures ∙ piece_begins c.args.bytes.now p is
