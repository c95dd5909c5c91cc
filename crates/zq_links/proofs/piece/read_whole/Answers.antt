use Rattle.zq_links.proofs.PiecesAgain.{piece_fails}
use Rattle.zq_links.proofs.piece.read_whole.Goals as goal

pub returns-in-Err-clause-exact : goal.returns-in-Err-clause-exact
returns-in-Err-clause-exact c =
    piece_fails _ c.args.bytes.now _ c.in-Err.fault c.in_ok-life.ensures.exact
    c.in-Err.ensures.exact
