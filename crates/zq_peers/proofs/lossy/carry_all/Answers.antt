use Rattle.zq_peers.proofs.Carried.{carried_next}
use Rattle.zq_peers.proofs.lossy.carry_all.Goals as goal

pub loop-frame-preserved : goal.loop-frame-preserved
loop-frame-preserved g c =
    carried_next g.C.Carry.carries c.args.carrier.now c.loop-frame.carrier c.carry-carried.new.self c.args.to c.loop-frame.yielded c.in-Some.frame c.loop-frame.whole c.carry-carried.result c.both-whole.result c.both-whole.ensures c.loop-frame.invariant c.carry-carried.ensures
