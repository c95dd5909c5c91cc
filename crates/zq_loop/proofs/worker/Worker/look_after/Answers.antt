use Rattle.zq_loop.proofs.Living.{rests-join}
use Rattle.zq_loop.proofs.worker.Worker.look_after.Goals as goal

pub returns-then-looked : goal.returns-then-looked
returns-then-looked g c = rests-join _ _ _ c.look.ensures c.remove.ensures.rests
