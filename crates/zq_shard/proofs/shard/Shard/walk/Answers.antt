use Rattle.std.proofs.Common.{ap, subst}
use Rattle.std.specs.Prelude.{IfOk}
use Rattle.zq_shard.proofs.Pieces.{is_piece}
use Rattle.zq_shard.specs.Walk.{IsPiece}
use Rattle.zq_shard.proofs.shard.Shard.walk.Goals as goal

pub returns-clause-piece : goal.returns-clause-piece
returns-clause-piece c =
    subst (λ a. IfOk c.walk.result (λ piece. IsPiece a c.args.spot piece.rows.items piece.next)) (ap (λ s. s.image) c.self.view_is)
    (is_piece (λ piece. piece.rows.items) (λ piece. piece.next) c.walk.result c.self.inside.queues c.self.inside.vector c.args.spot c.walk.ensures.standing c.walk.ensures.parts c.walk.ensures.entries)
