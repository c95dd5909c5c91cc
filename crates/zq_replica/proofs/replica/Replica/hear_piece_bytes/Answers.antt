use Rattle.std.proofs.Common.{inr}
use Rattle.zq_replica.proofs.Judged.{bytes_by_piece}
use Rattle.zq_replica.proofs.Replaced.{brought_by_piece}
use Rattle.zq_replica.proofs.replica.Replica.hear_piece_bytes.Goals as goal

pub returns-in-Ok-clause-brought : goal.returns-in-Ok-clause-brought
returns-in-Ok-clause-brought g c =
    brought_by_piece c.args.from c.args.self.now c.in-Ok.piece c.args.bytes.now c.args.node.now
    c.hear_piece.new.node c.in-Ok.ensures.found c.hear_piece.ensures.completed

pub returns-in-Ok-clause-weighed : goal.returns-in-Ok-clause-weighed
returns-in-Ok-clause-weighed g c =
    bytes_by_piece c.hear_piece.result c.map_err.result c.args.from c.in-Ok.piece
    c.args.bytes.now c.args.node.now c.hear_piece.new.node c.args.self.now
    c.hear_piece.new.self c.args.out.now.items c.hear_piece.new.out.items
    c.map_err.ensures.variant c.in-Ok.ensures.found c.hear_piece.ensures.weighed

pub returns-in-Ok-clause-gathers : goal.returns-in-Ok-clause-gathers
returns-in-Ok-clause-gathers g c =
    inr (inr (c.in-Ok.piece, c.in-Ok.ensures.found, c.hear_piece.ensures.gathers))
