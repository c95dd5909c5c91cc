use Rattle.std.proofs.Common.{ap, ◌∙◌}
use Rattle.zq_links.proofs.Answered.{value_or_no_memory}
use Rattle.zq_links.proofs.PiecesAgain.{piece_again}
use Rattle.zq_links.specs.PieceReading.{IsOfMemory, piece_at}
use Rattle.zq_links.proofs.piece.read_piece.Goals as goal

pub returns-clause-only : goal.returns-clause-only
returns-clause-only c p sound is =
    value_or_no_memory (IsOfMemory c.args.bytes.now) (λ x. x) c.read_whole.result
    (piece_at c.args.bytes.now) p c.read_whole.ensures.exact (ap piece_at is ∙ piece_again p sound)
