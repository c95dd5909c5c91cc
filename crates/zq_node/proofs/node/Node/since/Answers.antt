use Rattle.zq_node.proofs.Drains.{since_took_nothing}
use Rattle.zq_node.proofs.node.Node.since.Goals as goal

pub returns-in_err-since-clause-took_nothing : goal.returns-in_err-since-clause-took_nothing
returns-in_err-since-clause-took_nothing g c = since_took_nothing c.since.result c.args.self.now.pass c.since.new.pass c.args.heap c.since.ensures.called

pub returns-clause-took_nothing : goal.returns-clause-took_nothing
returns-clause-took_nothing g c = since_took_nothing c.since.result c.args.self.now.pass c.since.new.pass c.args.heap c.since.ensures.called
