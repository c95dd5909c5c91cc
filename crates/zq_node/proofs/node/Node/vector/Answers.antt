use Rattle.zq_node.proofs.Drains.{shown_took_nothing, worn_took_nothing}
use Rattle.zq_node.proofs.node.Node.vector.Goals as goal

pub returns-in_err-vector-clause-took_nothing : goal.returns-in_err-vector-clause-took_nothing
returns-in_err-vector-clause-took_nothing g c = worn_took_nothing c.args.self.now.pass c.vector.new.pass c.args.heap c.in_err-vector.ensures.refused

pub returns-clause-took_nothing : goal.returns-clause-took_nothing
returns-clause-took_nothing g c = shown_took_nothing c.in_ok-vector.vector c.args.self.now.pass c.vector.new.pass c.args.heap c.in_ok-vector.ensures.called
