use Rattle.zq_loop.proofs.Living.{rests-join}
use Rattle.zq_loop.proofs.worker.Worker.take_in.Goals as goal

pub loop-preserved : goal.loop-preserved
loop-preserved g c = rests-join _ _ _ c.loop.invariant c.take_in_one.ensures
