use Rattle.zq_loop.proofs.Living.{rests-join}
use Rattle.zq_loop.proofs.worker.Worker.prepare.Goals as goal

pub returns : goal.returns
returns g c = rests-join _ _ _ c.note.ensures (rests-join _ _ _ c.take_in.ensures c.finish.ensures)
