use Rattle.zq_replica.proofs.Grown.{grown_on, item_in}
use Rattle.zq_replica.proofs.exchanging.take_all.Goals as goal

pub returns-then-not-branch : goal.returns-then-not-branch
returns-then-not-branch c =
    let inv = c.loop-op.invariant in
    grown_on c.args.ops.now inv.0 c.op-item.result c.args.shard.now c.loop-op.shard
    c.take_one.new.shard inv.1
    (item_in c.args.ops.now c.loop-op.op-index c.op-item.result c.loop-op-test.true c.op-item.is)
    inv.2 c.in_ok-take_one.ensures.taken

pub loop-op-preserved : goal.loop-op-preserved
loop-op-preserved c =
    let inv = c.loop-op.invariant in
    grown_on c.args.ops.now inv.0 c.op-item.result c.args.shard.now c.loop-op.shard
    c.take_one.new.shard inv.1
    (item_in c.args.ops.now c.loop-op.op-index c.op-item.result c.loop-op-test.true c.op-item.is)
    inv.2 c.in_ok-take_one.ensures.taken
