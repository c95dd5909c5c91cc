use Rattle.std.proofs.Common.{◌∙◌}
use Rattle.zq_links.proofs.PiecesAgain.{piece_written, written_again}
use Rattle.zq_links.proofs.piece.write_piece.Goals as goal

pub returns-clause-written : goal.returns-clause-written
returns-clause-written c =
    piece_written c.args.piece.now _ _ _ _ (c.deref.ensures.value ∙ c.in_ok-state.ensures.written)
    c.new-out.ensures.items c.in_ok-write_front.ensures.written c.in_ok-write_bytes.ensures.written

pub returns-clause-again : goal.returns-clause-again
returns-clause-again c =
    written_again c.args.piece.now _ _ c.in_ok-write_front.ensures.sound
    c.in_ok-state.ensures.written c.in_ok-state.ensures.again
    (piece_written c.args.piece.now _ _ _ _ (c.deref.ensures.value ∙ c.in_ok-state.ensures.written)
    c.new-out.ensures.items c.in_ok-write_front.ensures.written c.in_ok-write_bytes.ensures.written)
