use Rattle.zq_node.proofs.Overs.{IsOverOf, over_called, over_covers, over_no_step}
use Rattle.zq_node.proofs.node.Node.take_over.Goals as goal
use Rattle.zq_node.specs.Node.{site_of}

pub returns-clause-over : goal.returns-clause-over
returns-clause-over g c =
    over_called (site_of c.args.self.now) c.args.self.now.pass c.take_over.new.pass c.args.other.now c.take_over.result (record { wrong_heap = c.take_over.ensures.wrong_heap; wrong_rule = c.take_over.ensures.wrong_rule; unlocked = c.take_over.ensures.unlocked; called = c.take_over.ensures.called })

pub returns-clause-covered : goal.returns-clause-covered
returns-clause-covered g c =
    over_covers (site_of c.args.self.now) c.args.self.now.pass c.take_over.new.pass c.args.other.now c.take_over.result (record { wrong_heap = c.take_over.ensures.wrong_heap; wrong_rule = c.take_over.ensures.wrong_rule; unlocked = c.take_over.ensures.unlocked; called = c.take_over.ensures.called })

pub returns-clause-no_step : goal.returns-clause-no_step
returns-clause-no_step g c =
    over_no_step (site_of c.args.self.now) c.args.self.now.pass c.take_over.new.pass c.args.other.now c.take_over.result (record { wrong_heap = c.take_over.ensures.wrong_heap; wrong_rule = c.take_over.ensures.wrong_rule; unlocked = c.take_over.ensures.unlocked; called = c.take_over.ensures.called })
