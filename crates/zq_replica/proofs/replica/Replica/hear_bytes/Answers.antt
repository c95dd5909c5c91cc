use Rattle.std.proofs.Common.{inl, inr}
use Rattle.zq_replica.proofs.Asked.{brought_by}
use Rattle.zq_replica.proofs.Judged.{bytes_by_frame}
use Rattle.zq_replica.proofs.replica.Replica.hear_bytes.Goals as goal

pub returns-in-Ok-clause-brought : goal.returns-in-Ok-clause-brought
returns-in-Ok-clause-brought g c =
    brought_by c.args.from c.args.self.now c.in-Ok.frame c.args.bytes.now c.args.node.now
    c.hear_unless_fenced.new.node c.in-Ok.ensures.found c.hear_unless_fenced.ensures.given

pub returns-in-Ok-clause-weighed : goal.returns-in-Ok-clause-weighed
returns-in-Ok-clause-weighed g c =
    bytes_by_frame c.hear_unless_fenced.result c.map_err.result c.args.from c.in-Ok.frame
    c.args.bytes.now c.args.node.now c.hear_unless_fenced.new.node c.args.self.now
    c.hear_unless_fenced.new.self c.args.out.now.items c.hear_unless_fenced.new.out.items
    c.map_err.ensures.variant c.in-Ok.ensures.found c.hear_unless_fenced.ensures.weighed

pub returns-in-Ok-clause-gathers : goal.returns-in-Ok-clause-gathers
returns-in-Ok-clause-gathers g c =
    inr (inl (c.in-Ok.frame, c.in-Ok.ensures.found, c.hear_unless_fenced.ensures.gathers))
