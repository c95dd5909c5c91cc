use Rattle.zq_node.proofs.Called.{state_called}
use Rattle.zq_node.proofs.Drains.{state_took_nothing}
use Rattle.zq_node.proofs.node.Node.state.Goals as goal
use Rattle.zq_node.specs.Node.{site_of}

pub returns-in_err-shard-clause-took_nothing : goal.returns-in_err-shard-clause-took_nothing
returns-in_err-shard-clause-took_nothing g c = state_took_nothing c.state.result c.args.self.now.pass c.state.new.pass c.args.heap c.state.ensures.called

pub returns-clause-copied : goal.returns-clause-copied
returns-clause-copied g c =
    state_called (site_of c.args.self.now) c.args.self.now.pass c.state.new.pass c.args.heap c.state.result c.in_ok-shard.shard c.in_ok-shard.was c.state.ensures.called

pub returns-clause-took_nothing : goal.returns-clause-took_nothing
returns-clause-took_nothing g c = state_took_nothing c.state.result c.args.self.now.pass c.state.new.pass c.args.heap c.state.ensures.called
