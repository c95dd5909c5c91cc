use Rattle.std.proofs.Common.{sym, ◌∙◌}
use Rattle.zq_links.specs.Frame.{frame_of}
use Rattle.zq_node.proofs.Told.{told_lacking}
use Rattle.zq_node.proofs.node.Node.tell_if.Goals as goal

pub returns-clause-told : goal.returns-clause-told
returns-clause-told g c =
    told_lacking c.args.self.now.home.site.now c.args.self.now.pass c.tell.new.self.pass c.args.heap c.args.theirs.now c.args.vector.now (frame_of c.in_ok-frame.frame) (sym c.covers.ensures.value ∙ c.if-covers.false) c.in_ok-frame.ensures.told
