use Rattle.std.proofs.Common.{arith, ◌∙◌}
use Rattle.zq_replica.proofs.Fed.{fed_all, fed_on}
use Rattle.zq_replica.proofs.gathering.Gathering.take_all.Goals as goal

pub loop-op-preserved : goal.loop-op-preserved
loop-op-preserved c = record {
  from = c.take.ensures.from ∙ c.loop-op.invariant.from;
  fed = fed_on c.args.ops.now c.loop-op.op-index c.op-item.result c.args.self.now.receiving
      c.loop-op.self.receiving c.take.new.self.receiving c.loop-op-test.true c.op-item.is
      c.loop-op.invariant.fed c.in_ok-take.ensures.fed;
}

pub returns-clause-fed : goal.returns-clause-fed
returns-clause-fed c =
    fed_all c.args.ops.now c.loop-op.op-index c.args.self.now.receiving c.loop-op.self.receiving
    (omega arith) c.loop-op.invariant.fed
