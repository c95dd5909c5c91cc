use Rattle.zq_loop.proofs.Living.{rests-join}
use Rattle.zq_loop.proofs.worker.Worker.look_after_all.Goals as goal

pub loop-place-preserved : goal.loop-place-preserved
loop-place-preserved g c = rests-join _ _ _ c.loop-place.invariant c.look_after.ensures
