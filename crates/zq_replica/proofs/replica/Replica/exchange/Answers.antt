use Rattle.zq_replica.proofs.Replaced.{by_exchange, by_merge, by_neither}
use Rattle.zq_replica.proofs.replica.Replica.exchange.Goals as goal

pub returns-in_err-try_all-clause-replaced : goal.returns-in_err-try_all-clause-replaced
returns-in_err-try_all-clause-replaced g c =
    by_neither c.args.shard c.args.node.now c.try_all.new.node c.in_err-try_all.ensures.tried

pub returns-then-branch-clause-replaced : goal.returns-then-branch-clause-replaced
returns-then-branch-clause-replaced g c =
    by_exchange c.in_ok-try_all.field-0 c.args.shard c.try_all.new.shard c.args.node.now
    c.try_all.new.node c.end_exchange.new.node c.if-branch.true c.in_ok-try_all.ensures.tried
    c.end_exchange.ensures.settled

pub returns-clause-replaced : goal.returns-clause-replaced
returns-clause-replaced g c =
    by_merge c.in_ok-try_all.field-0 c.args.shard c.try_all.new.shard c.args.node.now
    c.try_all.new.node c.hear_state.new.node c.if-branch.false c.in_ok-try_all.ensures.tried
    c.hear_state.ensures.given
