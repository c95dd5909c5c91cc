use Rattle.zq_node.proofs.Drains.{drain_took_nothing}
use Rattle.zq_node.proofs.node.Node.drain.Goals as goal

pub returns-in_err-since-clause-took_nothing : goal.returns-in_err-since-clause-took_nothing
returns-in_err-since-clause-took_nothing g c = drain_took_nothing c.args.self.now.pass c.drain.new.pass c.args.heap c.args.vector.now c.args.most c.drain.result c.drain.ensures.called

pub returns-clause-took_nothing : goal.returns-clause-took_nothing
returns-clause-took_nothing g c = drain_took_nothing c.args.self.now.pass c.drain.new.pass c.args.heap c.args.vector.now c.args.most c.drain.result c.drain.ensures.called
