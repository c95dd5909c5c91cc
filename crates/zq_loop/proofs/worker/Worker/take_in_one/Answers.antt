use Rattle.zq_loop.proofs.Living.{rests-join}
use Rattle.zq_loop.proofs.worker.Worker.take_in_one.Goals as goal

pub returns-in-Ok : goal.returns-in-Ok
returns-in-Ok g c = rests-join _ _ _ c.free_place.ensures c.place.ensures
