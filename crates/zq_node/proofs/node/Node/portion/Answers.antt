use Rattle.zq_node.proofs.Called.{portion_called, portion_no_step}
use Rattle.zq_node.proofs.Drains.{portion_took_nothing}
use Rattle.zq_node.proofs.node.Node.portion.Goals as goal
use Rattle.zq_node.specs.Node.{site_of}

pub returns-in_err-found-clause-took_nothing : goal.returns-in_err-found-clause-took_nothing
returns-in_err-found-clause-took_nothing g c = portion_took_nothing c.args.spot c.args.limits c.portion.result c.args.self.now.pass c.portion.new.pass c.args.heap c.portion.ensures.called

pub returns-clause-copied : goal.returns-clause-copied
returns-clause-copied g c =
    portion_called (site_of c.args.self.now) c.args.self.now.pass c.portion.new.pass c.args.heap c.args.spot c.args.limits c.portion.result c.in_ok-found.found c.in_ok-found.was c.portion.ensures.called

pub returns-clause-took_nothing : goal.returns-clause-took_nothing
returns-clause-took_nothing g c = portion_took_nothing c.args.spot c.args.limits c.portion.result c.args.self.now.pass c.portion.new.pass c.args.heap c.portion.ensures.called
